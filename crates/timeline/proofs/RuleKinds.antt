-- The dates of a rule depend on the year's first day and kind alone.
use Rattle.std.proofs.Common.{◌≡◌, ℕ, zero, suc, ◌+◌, ◌%◌, ◌<◌, Bool, true, false, not, cond, nat_lt, refl, sym, ap, ℤ, pos, ◌+ℤ◌, ◌-ℤ◌, ◌*ℤ◌, arith}
use Rattle.std.specs.Prelude.{unsigned_abs, int_lt}
use Rattle.std.specs.Ordering.{int_eq}
use Rattle.std.proofs.lemmas.Int.{ints}
use Rattle.std.proofs.lemmas.Bool.Decides.{nat_tests}
use Rattle.civil.specs.Calendar.{is_leap_year, year_start, days_of_months, weekday_of, year_kind, example_year, year_second}
use Rattle.civil.specs.Laws.{KindsOfYear, YearsRepeat}
use Rattle.civil.specs.YearLaws.{ExampleYears}
use Rattle.jiff_core.proofs.SignedLemmas.{signed_arith}
use Rattle.timeline.specs.declared.offset.Transition.{Transition}
use Rattle.timeline.specs.Zone.{DateRule, PlainRule}
use Rattle.timeline.specs.RuleDays.{month_start, code_weekday, anchor, first_on, last_on, rule_date}
use Rattle.timeline.specs.Rule.{rule_second, start_entry, end_entry, start_is_first, first_entry, second_entry}
use Rattle.timeline.specs.Kinds.{place_in_kind}
use Rattle.timeline.specs.RulePromises.{IsLater}

-- a kind's rest by 7 is the weekday of 1 January, and below 7 it is that of a common year
kind_by : (w : ℕ) (leap : Bool) (k : ℕ) → w < 7 → w + cond leap 7 0 ≡ k → (k % 7 ≡ w) × (nat_lt k 7 ≡ not leap)
kind_by w true k h e = (omega (arith, e), grind (arith, nat_tests))
kind_by w false k h e = (omega (arith, e), grind (arith, nat_tests))

pub kind_of_year : (y : ℤ) (k : ℕ) → year_kind y ≡ k → (weekday_of (year_start y) ≡ pos (k % 7)) × (nat_lt k 7 ≡ not (is_leap_year y))
unfolding year_kind
kind_of_year y k e =
    let by = kind_by (unsigned_abs (weekday_of (year_start y))) (is_leap_year y) k (omega (arith, signed_arith)) e in
    (omega (arith, signed_arith, by.0), by.1)

-- years that are both leap, or both not, have the same months
pub months_by_leap : (y z : ℤ) → is_leap_year y ≡ is_leap_year z → (m : ℕ) → days_of_months y m ≡ days_of_months z m
unfolding days_of_months
months_by_leap y z same zero = refl
months_by_leap y z same (suc m) = rw (months_by_leap y z same m, same) refl

-- two choices made alike, between numbers that are d apart
apart_choice : (p q : Bool) (x y u v d : ℤ) → p ≡ q → x ≡ u +ℤ d → y ≡ v +ℤ d → cond p x y ≡ cond q u v +ℤ d
apart_choice true true x y u v d e f g = f
apart_choice true false x y u v d e f g = cc
apart_choice false true x y u v d e f g = cc
apart_choice false false x y u v d e f g = g

-- from days with one weekday the first day with a weekday is as far
first_on-same : (n : ℕ) (w a b : ℤ) → weekday_of a ≡ weekday_of b → first_on n w b ≡ first_on n w a +ℤ (b -ℤ a)
unfolding first_on
first_on-same zero w a b same = omega (arith, ints)
first_on-same (suc n) w a b same =
    let next = first_on-same n w (a +ℤ pos 1) (b +ℤ pos 1) (omega (arith, signed_arith, same)) in
    apart_choice (int_eq (weekday_of b) w) (int_eq (weekday_of a) w) _ _ _ _ _ (ap (λ v. int_eq v w) (sym same)) (omega (arith, ints)) (omega (arith, ints, next))

-- and so is the last one up to them
last_on-same : (n : ℕ) (w a b : ℤ) → weekday_of a ≡ weekday_of b → last_on n w b ≡ last_on n w a +ℤ (b -ℤ a)
unfolding last_on
last_on-same zero w a b same = omega (arith, ints)
last_on-same (suc n) w a b same =
    let next = last_on-same n w (a -ℤ pos 1) (b -ℤ pos 1) (omega (arith, signed_arith, same)) in
    apart_choice (int_eq (weekday_of b) w) (int_eq (weekday_of a) w) _ _ _ _ _ (ap (λ v. int_eq v w) (sym same)) (omega (arith, ints)) (omega (arith, ints, next))

-- places in two years of one kind: they are as far apart as the years' first days, and have one weekday
record SamePlace (y z a b : ℤ) : Type 0 where
  apart : b ≡ a +ℤ (year_start z -ℤ year_start y)
  weekday : weekday_of a ≡ weekday_of b

month_place : (y z : ℤ) (m : ℕ) → year_kind y ≡ year_kind z → SamePlace y z (month_start y m) (month_start z m)
month_place y z m same =
    let left = kind_of_year y _ same in
    let right = kind_of_year z _ refl in
    let leap : is_leap_year y ≡ is_leap_year z = grind (arith, nat_tests, left.1, right.1) in
    let months = months_by_leap y z leap m in
    record {
      apart = omega (arith, ints, months);
      weekday = omega (arith, signed_arith, left.0, right.0, months);
    }

anchor_place : (r : DateRule) (y z : ℤ) → year_kind y ≡ year_kind z → SamePlace y z (anchor r y) (anchor r z)
anchor_place r y z same =
    let month = month_place y z r.month same in
    record {
      apart = omega (arith, ints, month.apart);
      weekday = omega (arith, signed_arith, month.weekday);
    }

-- the dates in two years of one kind are as far apart as the years
pub rule_date-same : (r : DateRule) (y z : ℤ) → year_kind y ≡ year_kind z → rule_date r z ≡ rule_date r y +ℤ (year_start z -ℤ year_start y)
unfolding rule_date
rule_date-same r y z same =
    let month = month_place y z r.month same in
    let day = anchor_place r y z same in
    let w = code_weekday r.code in
    apart_choice (int_eq r.code (pos 0)) (int_eq r.code (pos 0)) _ _ _ _ _ refl day.apart
    (apart_choice (int_lt (pos 0) r.code) (int_lt (pos 0) r.code) _ _ _ _ _ refl (omega (arith, ints, first_on-same 6 w (month_start y r.month) (month_start z r.month) month.weekday, month.apart))
    (apart_choice (int_lt (pos 0) r.day) (int_lt (pos 0) r.day) _ _ _ _ _ refl (omega (arith, ints, first_on-same 6 w (anchor r y) (anchor r z) day.weekday, day.apart)) (omega (arith, ints, last_on-same 6 w (anchor r y) (anchor r z) day.weekday, day.apart))))

-- the equation of the definition
pub place_in_kind-is : (r : DateRule) (k : ℕ) → place_in_kind r k ≡ rule_date r (example_year k) -ℤ year_start (example_year k)
unfolding place_in_kind
place_in_kind-is r k = refl

-- the date of a year is its first day and the place in its kind
pub rule_date-place : KindsOfYear → ExampleYears → (r : DateRule) (y : ℤ) → rule_date r y ≡ year_start y +ℤ place_in_kind r (year_kind y)
rule_date-place kinds examples r y =
    let same = rule_date-same r (example_year (year_kind y)) y (examples (year_kind y) (kinds.few y)) in
    omega (arith, ints, same, place_in_kind-is r (year_kind y))

-- ---- transitions

rule_second-same : (r : DateRule) (before raw y z : ℤ) → year_kind y ≡ year_kind z → rule_second r before raw z ≡ rule_second r before raw y +ℤ (year_second z -ℤ year_second y)
unfolding rule_second
rule_second-same r before raw y z same = omega (arith, ints, rule_date-same r y z same)

choice : (b : Bool) (s : ℤ) (e f g h : Transition) → IsLater s e g → IsLater s f h → IsLater s (cond b e f) (cond b g h)
choice true s e f g h p q = p
choice false s e f g h p q = q

start-same : (r : PlainRule) (y z : ℤ) → year_kind y ≡ year_kind z → IsLater (year_second z -ℤ year_second y) (start_entry r y) (start_entry r z)
start-same r y z same = record { since = rule_second-same r.start r.raw r.raw y z same; offset = refl; rule_applies = refl }

end-same : (r : PlainRule) (y z : ℤ) → year_kind y ≡ year_kind z → IsLater (year_second z -ℤ year_second y) (end_entry r y) (end_entry r z)
end-same r y z same = record { since = rule_second-same r.end (r.raw +ℤ r.extra) r.raw y z same; offset = refl; rule_applies = refl }

-- the transitions of two years of one kind are as far apart as the years
pub first_entry-same : (r : PlainRule) (y z : ℤ) → year_kind y ≡ year_kind z → IsLater (year_second z -ℤ year_second y) (first_entry r y) (first_entry r z)
first_entry-same r y z same = choice (start_is_first r) _ _ _ _ _ (start-same r y z same) (end-same r y z same)

pub second_entry-same : (r : PlainRule) (y z : ℤ) → year_kind y ≡ year_kind z → IsLater (year_second z -ℤ year_second y) (second_entry r y) (second_entry r z)
second_entry-same r y z same = choice (start_is_first r) _ _ _ _ _ (end-same r y z same) (start-same r y z same)

-- 400 years are 146,097 days
later_400 : YearsRepeat → (y : ℤ) (e f : Transition) → IsLater (year_second (y +ℤ pos 400) -ℤ year_second y) e f → IsLater (pos 86400 *ℤ pos 146097) e f
later_400 repeats y e f is = record {
  since = omega (arith, ints, is.since, repeats.start y);
  offset = is.offset;
  rule_applies = is.rule_applies;
}

pub first_entry-400 : YearsRepeat → (r : PlainRule) (y : ℤ) → IsLater (pos 86400 *ℤ pos 146097) (first_entry r y) (first_entry r (y +ℤ pos 400))
first_entry-400 repeats r y = later_400 repeats y _ _ (first_entry-same r y (y +ℤ pos 400) (sym (repeats.kind y)))

pub second_entry-400 : YearsRepeat → (r : PlainRule) (y : ℤ) → IsLater (pos 86400 *ℤ pos 146097) (second_entry r y) (second_entry r (y +ℤ pos 400))
second_entry-400 repeats r y = later_400 repeats y _ _ (second_entry-same r y (y +ℤ pos 400) (sym (repeats.kind y)))
