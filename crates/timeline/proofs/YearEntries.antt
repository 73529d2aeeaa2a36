-- What the entries of a year say of its seconds and wall seconds.
use Rattle.std.proofs.Common.{◌≡◌, Bool, true, false, [], ◌∷◌, Option, None, Some, ℤ, pos, ◌+ℤ◌, ◌<ℤ◌, ◌≤ℤ◌, refl, sym, ap, ◌∙◌, arith}
use Rattle.std.specs.Prelude.{int_lt, IfSome}
use Rattle.std.proofs.lemmas.Int.{ints}
use Rattle.civil.specs.Calendar.{year_second}
use Rattle.timeline.specs.declared.offset.Offset.{Offset}
use Rattle.timeline.specs.declared.offset.Transition.{Transition}
use Rattle.timeline.specs.declared.offset.PossibleOffset.TheVariants as possible
use Rattle.timeline.specs.declared.lookups.YearEntries.TheVariants as year
use Rattle.timeline.specs.Zone.{PlainZone, PlainRule}
use Rattle.timeline.specs.Rule.{first_entry, second_entry}
use Rattle.timeline.specs.Timeline.{offset_at, offset_of}
use Rattle.timeline.specs.Laws.{IsLawful}
use Rattle.timeline.specs.Lookups.{AnswersWall}
use Rattle.timeline.specs.Inside.AnswerSteps.{answer_from, offset_in_year}
use Rattle.timeline.specs.WallPromises.{IsOfYear}
use Rattle.timeline.specs.Inside.YearEntries.{rule_entries_in, entries_in, IsNearestYear, inside, before, after, StartsInside}
use Rattle.timeline.proofs.Entries.{int_lt_true, int_lt_false, int_lt-true, int_lt-false}
use Rattle.timeline.proofs.TimelineEntries.{same_second}
use Rattle.timeline.proofs.Years.{years_rise}
use Rattle.timeline.proofs.LookupsByWall.{answers_by_rule, answers_past_rule}
use Rattle.timeline.proofs.LookupsBySecond.{offset_by_year, offset_past_rule}

-- ---- the three kinds of year

pub before_rule : (o : Option PlainRule) (y : ℤ) → year.Table ≡ entries_in o y → IfSome o (λ r. y <ℤ r.first_year)
before_rule None y is = tt
before_rule (Some r) y is = by (int_lt y r.first_year) (int_lt y (pos 2147483647)) refl refl
  where
    by : (a b : Bool) → int_lt y r.first_year ≡ a → int_lt y (pos 2147483647) ≡ b → y <ℤ r.first_year
    by true b is_a is_b = int_lt_true _ _ is_a
    by false true is_a is_b = let no = rw (is_a, is_b) at is in cc
    by false false is_a is_b = let no = rw (is_a, is_b) at is in cc

pub record IsInRule (o : Option PlainRule) (y : ℤ) (held : Offset) (first second : Transition) (r : PlainRule) : Type 0 where
  pub rule : o ≡ Some r
  pub from : r.first_year ≤ℤ y
  pub below : y <ℤ pos 2147483647
  pub before_is : held ≡ offset_of (second_entry r y)
  pub first_is : first ≡ first_entry r y
  pub second_is : second ≡ second_entry r y

pub in_rule : (o : Option PlainRule) (y : ℤ) (held : Offset) (first second : Transition) → year.Rule held first second ≡ entries_in o y
    → (r : PlainRule) × IsInRule o y held first second r
in_rule None y held first second is = cc
in_rule (Some r) y held first second is = by (int_lt y r.first_year) (int_lt y (pos 2147483647)) refl refl
  where
    by : (a b : Bool) → int_lt y r.first_year ≡ a → int_lt y (pos 2147483647) ≡ b → (r' : PlainRule) × IsInRule (Some r) y held first second r'
    by true b is_a is_b = let no = rw is_a at is in cc
    by false true is_a is_b =
        let same = rw (is_a, is_b) at is in
        (r, record { rule = refl; from = int_lt_false _ _ is_a; below = int_lt_true _ _ is_b; before_is = cc same; first_is = cc same; second_is = cc same })
    by false false is_a is_b = let no = rw (is_a, is_b) at is in cc

pub record IsPastRule (o : Option PlainRule) (y : ℤ) (last : Offset) (r : PlainRule) : Type 0 where
  pub rule : o ≡ Some r
  pub from : r.first_year ≤ℤ y
  pub past : pos 2147483647 ≤ℤ y
  pub last_is : last ≡ offset_of (second_entry r y)

pub past_rule : (o : Option PlainRule) (y : ℤ) (last : Offset) → year.Past last ≡ entries_in o y → (r : PlainRule) × IsPastRule o y last r
past_rule None y last is = cc
past_rule (Some r) y last is = by (int_lt y r.first_year) (int_lt y (pos 2147483647)) refl refl
  where
    by : (a b : Bool) → int_lt y r.first_year ≡ a → int_lt y (pos 2147483647) ≡ b → (r' : PlainRule) × IsPastRule (Some r) y last r'
    by true b is_a is_b = let no = rw is_a at is in cc
    by false true is_a is_b = let no = rw (is_a, is_b) at is in cc
    by false false is_a is_b =
        let same = rw (is_a, is_b) at is in
        (r, record { rule = refl; from = int_lt_false _ _ is_a; past = int_lt_false _ _ is_b; last_is = cc same })

pub says_table : (r : PlainRule) (y : ℤ) → y <ℤ r.first_year → year.Table ≡ rule_entries_in r y
says_table r y lt = rw (int_lt-true _ _ lt) refl

pub says_rule : (r : PlainRule) (y : ℤ) → r.first_year ≤ℤ y → y <ℤ pos 2147483647
    → year.Rule (offset_of (second_entry r y)) (first_entry r y) (second_entry r y) ≡ rule_entries_in r y
says_rule r y from below = rw (int_lt-false _ _ from, int_lt-true _ _ below) refl

pub says_past : (r : PlainRule) (x y : ℤ) (last : Offset) → r.first_year ≤ℤ y → pos 2147483647 ≤ℤ y → last ≡ offset_of (second_entry r x) → year.Past last ≡ rule_entries_in r y
says_past r x y last from past is = ap year.Past (is ∙ same_second r x y) ∙ sym (rw (int_lt-false _ _ from, int_lt-false _ _ past) refl)

-- ---- seconds

-- a second whose nearest year lies before the rule's first year lies before the second that this begins with
pub before_start : (o : Option PlainRule) (y t : ℤ) → IsNearestYear y t → StartsInside o → IfSome o (λ r. y <ℤ r.first_year) → IfSome o (λ r. t <ℤ year_second r.first_year)
before_start None y t near starts lower = tt
before_start (Some r) y t (inside of) starts lower =
    let up = years_rise (y +ℤ pos 1) r.first_year (omega (arith, ints, lower)) in
    let to = of.to in
    omega (arith, ints, up, to)
before_start (Some r) y t (before is lt) starts lower = let up = years_rise y r.first_year (omega (arith, ints, lower)) in omega (arith, ints, up, lt)
before_start (Some r) y t (after is le) starts lower = let within = starts.1 in absurd (omega (arith, ints, is, lower, within))

-- and one whose nearest year has entries of the rule lies in that year
pub in_year_of : (o : Option PlainRule) (y t : ℤ) (r : PlainRule) → o ≡ Some r → IsNearestYear y t → StartsInside o → r.first_year ≤ℤ y → y <ℤ pos 2147483647 → IsOfYear y t
in_year_of o y t r rule (inside of) starts from below = of
in_year_of o y t r rule (before is lt) starts from below = let within = (rw rule at starts).0 in absurd (omega (arith, ints, is, from, within))
in_year_of o y t r rule (after is le) starts from below = absurd (omega (arith, ints, is, below))

-- a second whose nearest year comes after the rule's years does so too
pub from_year : (y t : ℤ) → IsNearestYear y t → pos 2147483647 ≤ℤ y → year_second y ≤ℤ t
from_year y t (inside of) past = of.from
from_year y t (before is lt) past = absurd (omega (arith, ints, is, past))
from_year y t (after is le) past = le

pub offset_by_rule_entries : (z : PlainZone) (y t : ℤ) (held : Offset) (first second : Transition) → IsLawful z → IsNearestYear y t → StartsInside z.rule → year.Rule held first second ≡ entries_in z.rule y
    → offset_at z t ≡ offset_in_year t held first second
offset_by_rule_entries z y t held first second lawful near starts is = by (in_rule z.rule y held first second is)
  where
    by : (r : PlainRule) × IsInRule z.rule y held first second r → offset_at z t ≡ offset_in_year t held first second
    by found =
        let h = found.1 in
        let of = in_year_of z.rule y t found.0 h.rule near starts h.from h.below in
        rw (h.before_is, h.first_is, h.second_is) (offset_by_year z found.0 y t lawful h.rule h.from h.below of)

pub offset_past_entries : (z : PlainZone) (y t : ℤ) (last : Offset) → IsLawful z → IsNearestYear y t → year.Past last ≡ entries_in z.rule y → offset_at z t ≡ last
offset_past_entries z y t last lawful near is = by (past_rule z.rule y last is)
  where
    by : (r : PlainRule) × IsPastRule z.rule y last r → offset_at z t ≡ last
    by found = let h = found.1 in rw h.last_is (offset_past_rule z found.0 y t y lawful h.rule h.from h.past (from_year y t near h.past))

-- ---- wall seconds

pub answers_by_rule_entries : (z : PlainZone) (y w : ℤ) (held : Offset) (first second : Transition) → IsLawful z → IsNearestYear y w → StartsInside z.rule → year.Rule held first second ≡ entries_in z.rule y
    → AnswersWall z w (answer_from w held (first ∷ second ∷ []))
answers_by_rule_entries z y w held first second lawful near starts is = by (in_rule z.rule y held first second is)
  where
    by : (r : PlainRule) × IsInRule z.rule y held first second r → AnswersWall z w (answer_from w held (first ∷ second ∷ []))
    by found =
        let h = found.1 in
        let of = in_year_of z.rule y w found.0 h.rule near starts h.from h.below in
        rw (h.before_is, h.first_is, h.second_is) (answers_by_rule z found.0 y w lawful h.rule h.from h.below of)

pub answers_past_entries : (z : PlainZone) (y w : ℤ) (last : Offset) → IsLawful z → IsNearestYear y w → year.Past last ≡ entries_in z.rule y → AnswersWall z w (possible.Single last)
answers_past_entries z y w last lawful near is = by (past_rule z.rule y last is)
  where
    by : (r : PlainRule) × IsPastRule z.rule y last r → AnswersWall z w (possible.Single last)
    by found = let h = found.1 in rw h.last_is (answers_past_rule z found.0 y w y lawful h.rule h.from h.past (from_year y w near h.past))
