-- The places of a rule's dates by remainders.
use Rattle.std.proofs.Common.{◌≡◌, ◌≢◌, ℕ, zero, suc, ◌+◌, ◌-◌, ◌%◌, ◌<◌, ◌≤◌, Bool, true, false, cond, refl, sym, ap, ◌∙◌, ℤ, pos, ◌+ℤ◌, ◌-ℤ◌, ◌*ℤ◌, arith}
use Rattle.std.specs.Prelude.{unsigned_abs, int_lt}
use Rattle.std.specs.Ordering.{int_eq}
use Rattle.std.proofs.lemmas.Int.{ints}
use Rattle.std.proofs.lemmas.Bool.Decides.{nat_tests, Decides-int_eq}
use Rattle.civil.specs.Calendar.{is_leap_year, year_start, days_of_months, weekday_of, year_kind, example_year}
use Rattle.jiff_core.proofs.SignedLemmas.{signed_arith}
use Rattle.timeline.specs.Zone.{DateRule}
use Rattle.timeline.specs.RuleDays.{code_weekday, anchor, first_on, last_on, rule_date}
use Rattle.timeline.specs.Kinds.{place_in_kind}
use Rattle.timeline.proofs.RuleKinds.{kind_of_year, months_by_leap, place_in_kind-is}

-- a weekday n days later
pub later_weekday : (v n : ℕ) (day : ℤ) → weekday_of day ≡ pos v → weekday_of (day +ℤ pos n) ≡ pos ((v + n) % 7)
later_weekday v n day is = omega (arith, signed_arith, is)

-- and the day before
earlier_weekday : (v : ℕ) (day : ℤ) → weekday_of day ≡ pos v → weekday_of (day -ℤ pos 1) ≡ pos ((v + 6) % 7)
earlier_weekday v day is = omega (arith, signed_arith, is)

-- two weekdays are equal where their test says so, and only there
equal_weekdays : (d : ℤ) (v w : ℕ) → weekday_of d ≡ pos v → int_eq (weekday_of d) (pos w) ≡ true → v ≡ w
equal_weekdays d v w is h = let e = (Decides-int_eq (weekday_of d) (pos w)).0 h in omega (arith, ints, e, is)

other_weekdays : (d : ℤ) (v w : ℕ) → weekday_of d ≡ pos v → int_eq (weekday_of d) (pos w) ≡ false → v ≢ w
other_weekdays d v w is h e =
    let yes : int_eq (weekday_of d) (pos w) ≡ true = (Decides-int_eq (weekday_of d) (pos w)).1 (is ∙ ap pos e) in
    let no : true ≡ false = sym yes ∙ h in
    cc

-- the first day from one with the weekday v on that has the weekday w
pub first_on-is : (n w v : ℕ) (from : ℤ) → w < 7 → v < 7 → weekday_of from ≡ pos v → (w + 7 - v) % 7 ≤ n → first_on n (pos w) from ≡ from +ℤ pos ((w + 7 - v) % 7)
unfolding first_on
first_on-is zero w v from h k is near = omega (arith, ints, near)
first_on-is (suc n) w v from h k is near = by (int_eq (weekday_of from) (pos w)) refl (λ v e k near. first_on-is n w v (from +ℤ pos 1) h k e near)
  where
    by : (b : Bool) → int_eq (weekday_of from) (pos w) ≡ b
        → ((v : ℕ) → weekday_of (from +ℤ pos 1) ≡ pos v → v < 7 → (w + 7 - v) % 7 ≤ n → first_on n (pos w) (from +ℤ pos 1) ≡ (from +ℤ pos 1) +ℤ pos ((w + 7 - v) % 7))
        → cond (int_eq (weekday_of from) (pos w)) from (first_on n (pos w) (from +ℤ pos 1)) ≡ from +ℤ pos ((w + 7 - v) % 7)
    by true e rest =
        let same = equal_weekdays from v w is e in
        ap (λ b. cond b from (first_on n (pos w) (from +ℤ pos 1))) e ∙ omega (arith, ints, same)
    by false e rest =
        let other = other_weekdays from v w is e in
        let next = rest ((v + 1) % 7) (later_weekday v 1 from is) (omega arith) (omega (arith, near, other)) in
        let less : (w + 7 - (v + 1) % 7) % 7 + 1 ≡ (w + 7 - v) % 7 = omega (arith, other) in
        ap (λ b. cond b from (first_on n (pos w) (from +ℤ pos 1))) e ∙ omega (arith, ints, next, less)

-- and the last day up to it
pub last_on-is : (n w v : ℕ) (to : ℤ) → w < 7 → v < 7 → weekday_of to ≡ pos v → (v + 7 - w) % 7 ≤ n → last_on n (pos w) to ≡ to -ℤ pos ((v + 7 - w) % 7)
unfolding last_on
last_on-is zero w v to h k is near = omega (arith, ints, near)
last_on-is (suc n) w v to h k is near = by (int_eq (weekday_of to) (pos w)) refl (λ v e k near. last_on-is n w v (to -ℤ pos 1) h k e near)
  where
    by : (b : Bool) → int_eq (weekday_of to) (pos w) ≡ b
        → ((v : ℕ) → weekday_of (to -ℤ pos 1) ≡ pos v → v < 7 → (v + 7 - w) % 7 ≤ n → last_on n (pos w) (to -ℤ pos 1) ≡ (to -ℤ pos 1) -ℤ pos ((v + 7 - w) % 7))
        → cond (int_eq (weekday_of to) (pos w)) to (last_on n (pos w) (to -ℤ pos 1)) ≡ to -ℤ pos ((v + 7 - w) % 7)
    by true e rest =
        let same = equal_weekdays to v w is e in
        ap (λ b. cond b to (last_on n (pos w) (to -ℤ pos 1))) e ∙ omega (arith, ints, same)
    by false e rest =
        let other = other_weekdays to v w is e in
        let next = rest ((v + 6) % 7) (earlier_weekday v to is) (omega arith) (omega (arith, near, other)) in
        let less : ((v + 6) % 7 + 7 - w) % 7 + 1 ≡ (v + 7 - w) % 7 = omega (arith, other) in
        ap (λ b. cond b to (last_on n (pos w) (to -ℤ pos 1))) e ∙ omega (arith, ints, next, less)

-- ---- kinds

pub weekday_in_kind : (y : ℤ) (k n : ℕ) → year_kind y ≡ k → weekday_of (year_start y +ℤ pos n) ≡ pos ((k % 7 + n) % 7)
weekday_in_kind y k n e = later_weekday (k % 7) n (year_start y) (kind_of_year y k e).0

-- a common year has the months of 2001, and a leap one those of 2000
pub months_in_common : (y : ℤ) (k : ℕ) → year_kind y ≡ k → k < 7 → (m : ℕ) → days_of_months y m ≡ days_of_months (pos 2001) m
months_in_common y k e h =
    let leap : is_leap_year y ≡ false = grind (arith, nat_tests, (kind_of_year y k e).1) in
    months_by_leap y (pos 2001) leap

pub months_in_leap : (y : ℤ) (k : ℕ) → year_kind y ≡ k → 7 ≤ k → (m : ℕ) → days_of_months y m ≡ days_of_months (pos 2000) m
months_in_leap y k e h =
    let leap : is_leap_year y ≡ true = grind (arith, nat_tests, (kind_of_year y k e).1) in
    months_by_leap y (pos 2000) leap

-- ---- the four kinds of code

at_kind : (r : DateRule) (k : ℕ) (place : ℤ) → rule_date r (example_year k) ≡ year_start (example_year k) +ℤ place → place ≡ place_in_kind r k
at_kind r k place e = omega (arith, ints, e, place_in_kind-is r k)

-- code 0
pub place_anchor : (r : DateRule) (k first : ℕ) → int_eq r.code (pos 0) ≡ true → first ≡ days_of_months (example_year k) r.month → 1 ≤ unsigned_abs r.day
    → pos (first + unsigned_abs r.day - 1) ≡ place_in_kind r k
unfolding rule_date
place_anchor r k first none e some = at_kind r k _ (rw none (omega (arith, ints, e)))

-- code above 0
pub place_from_month : (r : DateRule) (k first : ℕ) (found : ℤ) → int_eq r.code (pos 0) ≡ false → int_lt (pos 0) r.code ≡ true → first ≡ days_of_months (example_year k) r.month
    → first_on 6 (code_weekday r.code) (year_start (example_year k) +ℤ pos first) ≡ year_start (example_year k) +ℤ found
    → found +ℤ pos 7 *ℤ (r.day -ℤ pos 1) ≡ place_in_kind r k
unfolding rule_date
place_from_month r k first found some above e f =
    let from = ap (λ n. first_on 6 (code_weekday r.code) (year_start (example_year k) +ℤ pos n)) e in
    at_kind r k _ (rw (some, above) (omega (arith, ints, f, from)))

-- code below 0, day above 0
pub place_from_anchor : (r : DateRule) (k first : ℕ) (found : ℤ) → int_eq r.code (pos 0) ≡ false → int_lt (pos 0) r.code ≡ false → int_lt (pos 0) r.day ≡ true
    → first ≡ days_of_months (example_year k) r.month → 1 ≤ unsigned_abs r.day
    → first_on 6 (code_weekday r.code) (year_start (example_year k) +ℤ pos (first + unsigned_abs r.day - 1)) ≡ year_start (example_year k) +ℤ found
    → found ≡ place_in_kind r k
unfolding rule_date
place_from_anchor r k first found some below day e h f =
    let same : year_start (example_year k) +ℤ pos (first + unsigned_abs r.day - 1) ≡ anchor r (example_year k) = omega (arith, ints, e) in
    let from = ap (first_on 6 (code_weekday r.code)) same in
    at_kind r k _ (rw (some, below, day) (omega (arith, ints, f, from)))

-- both below 0
pub place_to_anchor : (r : DateRule) (k first : ℕ) (found : ℤ) → int_eq r.code (pos 0) ≡ false → int_lt (pos 0) r.code ≡ false → int_lt (pos 0) r.day ≡ false
    → first ≡ days_of_months (example_year k) r.month → 1 ≤ unsigned_abs r.day
    → last_on 6 (code_weekday r.code) (year_start (example_year k) +ℤ pos (first + unsigned_abs r.day - 1)) ≡ year_start (example_year k) +ℤ found
    → found ≡ place_in_kind r k
unfolding rule_date
place_to_anchor r k first found some below day e h f =
    let same : year_start (example_year k) +ℤ pos (first + unsigned_abs r.day - 1) ≡ anchor r (example_year k) = omega (arith, ints, e) in
    let to = ap (last_on 6 (code_weekday r.code)) same in
    at_kind r k _ (rw (some, below, day) (omega (arith, ints, f, to)))

-- ---- what code tests

pub is_zero : (code : ℤ) → code ≡ pos 0 → int_eq code (pos 0) ≡ true
is_zero code e = (Decides-int_eq code (pos 0)).1 e

pub is_no_zero : (code : ℤ) → code ≢ pos 0 → int_eq code (pos 0) ≡ false
is_no_zero code h = by (int_eq code (pos 0)) refl
  where
    by : (b : Bool) → int_eq code (pos 0) ≡ b → int_eq code (pos 0) ≡ false
    by true e = absurd (h ((Decides-int_eq code (pos 0)).0 e))
    by false e = e
