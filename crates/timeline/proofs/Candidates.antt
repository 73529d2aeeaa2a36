-- Which entries of a lawful zone can have a wall second in their stretch: those of its year, or those around it in the table.
use Rattle.std.proofs.Common.{◌≡◌, ℕ, zero, suc, ◌+◌, ◌*◌, ◌<◌, ◌≤◌, ◌⊎◌, inl, inr, length, Option, Some, None, ℤ, pos, ◌+ℤ◌, ◌<ℤ◌, ◌≤ℤ◌, refl, ap, ◌∙◌, arith}
use Rattle.std.specs.Prelude.{IfSome, slice_get}
use Rattle.std.proofs.lemmas.Int.{ints}
use Rattle.std.proofs.lemmas.Bool.{cases_lt}
use Rattle.std.proofs.lemmas.Option.{slice_get_within}
use Rattle.civil.specs.Calendar.{year_second}
use Rattle.timeline.specs.declared.offset.Transition.{Transition}
use Rattle.timeline.specs.Zone.{PlainZone, PlainRule}
use Rattle.timeline.specs.Timeline.{entry_at, table_place}
use Rattle.timeline.specs.Placement.{IsInStretch}
use Rattle.timeline.specs.Laws.{IsLawful, EndsBefore}
use Rattle.timeline.specs.Neighbours.{Step, IsNear}
use Rattle.timeline.specs.WallPromises.{IsOfYear, IsRuleEntry, HasTwoCandidates}
use Rattle.timeline.proofs.ChainWalls.{IsBehind, IsAhead, Stretches, not_behind, not_ahead}
use Rattle.timeline.proofs.TimelineEntries.{Stands, in_table, is_first, is_second, stands, is_there, before_next, table_at}
use Rattle.timeline.proofs.TimelineRises.{if_some, neighbours, step_of, same_rule}
use Rattle.timeline.proofs.Years.{years_rise}
use Rattle.timeline.proofs.TimelineYears.{years_from, rule_of, StartsFrom, ends_before, starts_from}
use Rattle.timeline.proofs.TablePlaces.{IsTablePlace, table_placed}

four : (n k : ℕ) → (suc n < k) ⊎ ((k < n) ⊎ ((n + 1 ≡ k) ⊎ (n ≡ k)))
four n k = grind arith

-- the entry in whose stretch w lies
pub stretch_of : (z : PlainZone) (w : ℤ) (n : ℕ) → IsInStretch z w n → (e : Transition) × (entry_at z n ≡ Some e) × Stretches w (step_of z n e)
stretch_of z w n (inl gap) = (gap.0, gap.1, inl (record { old = gap.2; new = gap.3 }))
stretch_of z w n (inr fold) = (fold.0, fold.1, inr (record { new = fold.2; old = fold.3 }))

-- ---- from the rule's first year on

pub ends_behind : (limit w : ℤ) (s : Step) → limit ≤ℤ w → EndsBefore limit s → IsBehind w s
ends_behind limit w s le h = record { old = omega (arith, ints, le, h.old); new = omega (arith, ints, le, h.new) }

pub starts_ahead : (limit w : ℤ) (s : Step) → w <ℤ limit → StartsFrom limit s → IsAhead w s
starts_ahead limit w s lt h = record { old = omega (arith, ints, lt, h.old); new = omega (arith, ints, lt, h.new) }

-- the entries before the rule's jth year are behind its wall seconds, and those after that year ahead of them
pub year_behind : (z : PlainZone) (r : PlainRule) (j n : ℕ) (w : ℤ) (e : Transition) → IsLawful z → z.rule ≡ Some r → IsOfYear (r.first_year +ℤ pos j) w
    → entry_at z n ≡ Some e → n < length z.table + 2 * j → IsBehind w (step_of z n e)
year_behind z r j n w e lawful rule of at lt = ends_behind _ w _ of.from (ends_before z r j n e lawful rule at lt)

pub year_ahead : (z : PlainZone) (r : PlainRule) (j n : ℕ) (w : ℤ) (e : Transition) → IsLawful z → z.rule ≡ Some r → IsOfYear (r.first_year +ℤ pos j) w
    → entry_at z n ≡ Some e → suc (suc (length z.table + 2 * j)) ≤ n → IsAhead w (step_of z n e)
year_ahead z r j n w e lawful rule of at from =
    let up = years_rise (r.first_year +ℤ pos j +ℤ pos 1) (r.first_year +ℤ pos (suc j)) (omega (arith, ints)) in
    let to = of.to in
    starts_ahead _ w _ (omega (arith, ints, up, to)) (starts_from z r (suc j) n e lawful rule at (omega arith))

stretch_in_year : (z : PlainZone) (r : PlainRule) (j n : ℕ) (w : ℤ) → IsLawful z → z.rule ≡ Some r → IsOfYear (r.first_year +ℤ pos j) w → IsInStretch z w n
    → IsRuleEntry z r (r.first_year +ℤ pos j) n × ((r.first_year +ℤ pos j) <ℤ pos 2147483647)
stretch_in_year z r j n w lawful rule of stretch = by (stands z n at.0 at.1)
  where
    at : (e : Transition) × (entry_at z n ≡ Some e) × Stretches w (step_of z n e)
    at = stretch_of z w n stretch

    low : length z.table + 2 * j ≤ n
    low = elim (cases_lt n (length z.table + 2 * j)) as (λ _. length z.table + 2 * j ≤ n) [
      | inl lt ↦ absurd (not_behind w _ (year_behind z r j n w at.0 lawful rule of at.1 lt) at.2)
      | inr from ↦ from
    ]

    high : n < suc (suc (length z.table + 2 * j))
    high = elim (cases_lt n (suc (suc (length z.table + 2 * j)))) as (λ _. n < suc (suc (length z.table + 2 * j))) [
      | inl lt ↦ lt
      | inr from ↦ absurd (not_ahead w _ (year_ahead z r j n w at.0 lawful rule of at.1 from) at.2)
    ]

    by : Stands z n at.0 → IsRuleEntry z r (r.first_year +ℤ pos j) n × ((r.first_year +ℤ pos j) <ℤ pos 2147483647)
    by (in_table lt is) = let from = low in absurd (omega arith)
    by (is_first r' i year place is) =
        let same = same_rule z r r' rule year.rule in
        let i_is : i ≡ j = (let from = low in let to = high in omega arith) in
        (inl (at.1 ∙ ap Some (rw (same, i_is) at is)), rw (same, i_is) at year.below)
    by (is_second r' i year place is) =
        let same = same_rule z r r' rule year.rule in
        let i_is : i ≡ j = (let from = low in let to = high in omega arith) in
        (inr (at.1 ∙ ap Some (rw (same, i_is) at is)), rw (same, i_is) at year.below)

pub stretch_in_rule : (z : PlainZone) (r : PlainRule) (y w : ℤ) (n : ℕ) → IsLawful z → z.rule ≡ Some r → r.first_year ≤ℤ y → IsOfYear y w → IsInStretch z w n
    → IsRuleEntry z r y n × (y <ℤ pos 2147483647)
stretch_in_rule z r y w n lawful rule from of stretch =
    let year = years_from r.first_year y from in
    rw year.1 at (stretch_in_year z r year.0 n w lawful rule (rw year.1 of) stretch)

-- ---- in the table

behind_next : (w : ℤ) (a b : Step) → IsNear a b → b.since ≤ℤ w → IsBehind w a
behind_next w a b near le = record { old = omega (arith, ints, near.old, le); new = omega (arith, ints, near.new, le) }

ahead_of_last : (w : ℤ) (a b : Step) → IsNear a b → w <ℤ a.since → IsAhead w b
ahead_of_last w a b near lt = record { old = omega (arith, ints, near.to_old, lt); new = omega (arith, ints, near.to_new, lt) }

-- the table's entries before the last one that is not after w are behind w
pub table_behind : (z : PlainZone) (w : ℤ) (k n : ℕ) (e : Transition) → IsLawful z → IsTablePlace z w k → slice_get z.table n ≡ Some e → suc n < k → IsBehind w (step_of z n e)
table_behind z w k n e lawful place at lt =
    let next = is_there z.table (suc n) (let within = place.within in omega arith) in
    let follow = (neighbours z n e next.0 lawful (table_at z n e at) (table_at z (suc n) next.0 next.1)).follows in
    behind_next w _ _ follow.near (place.passed (suc n) next.0 next.1 lt)

-- and those after the next one are ahead of it
pub table_ahead : (z : PlainZone) (w : ℤ) (k n : ℕ) (e : Transition) → IsLawful z → IsTablePlace z w k → slice_get z.table n ≡ Some e → k < n → IsAhead w (step_of z n e)
table_ahead z w k zero e lawful place at lt = absurd (omega arith)
table_ahead z w k (suc m) e lawful place at lt =
    let last = is_there z.table m (omega (arith, slice_get_within z.table (suc m) e at)) in
    let at_last = table_at z m last.0 last.1 in
    let follow = (neighbours z m last.0 e lawful at_last (table_at z (suc m) e at)).follows in
    let ahead = ahead_of_last w _ _ follow.near (place.ahead m last.0 last.1 (omega arith)) in
    rw (before_next z m last.0 at_last) ahead

-- a wall second of a year before the rule's first one lies before the second that this begins with
before_year : (o : Option PlainRule) (y w : ℤ) → IsOfYear y w → IfSome o (λ r. y <ℤ r.first_year) → IfSome o (λ r. w <ℤ year_second r.first_year)
before_year None y w of less = tt
before_year (Some r) y w of less =
    let up = years_rise (y +ℤ pos 1) r.first_year (omega (arith, ints, less)) in
    let to = of.to in
    omega (arith, ints, up, to)

-- w lies before the rule's first year
pub past_ahead : (z : PlainZone) (w : ℤ) (n : ℕ) (e : Transition) → IsLawful z → IfSome z.rule (λ r. w <ℤ year_second r.first_year) → entry_at z n ≡ Some e → length z.table ≤ n
    → IsAhead w (step_of z n e)
past_ahead z w n e lawful before at past =
    let r = rule_of z n e at past in
    let less = if_some (λ r. w <ℤ year_second r.first_year) z.rule r.0 r.1 before in
    let up = years_rise r.0.first_year (r.0.first_year +ℤ pos 0) (omega (arith, ints)) in
    starts_ahead _ w _ (omega (arith, ints, up, less)) (starts_from z r.0 0 n e lawful r.1 at (omega arith))

pub stretch_in_table : (z : PlainZone) (y w : ℤ) (n : ℕ) → IsLawful z → IfSome z.rule (λ r. y <ℤ r.first_year) → IsOfYear y w → IsInStretch z w n
    → (n + 1 ≡ table_place z w) ⊎ (n ≡ table_place z w)
stretch_in_table z y w n lawful before of stretch = by (stands z n at.0 at.1)
  where
    at : (e : Transition) × (entry_at z n ≡ Some e) × Stretches w (step_of z n e)
    at = stretch_of z w n stretch

    place : IsTablePlace z w (table_place z w)
    place = table_placed z w lawful.order

    near : slice_get z.table n ≡ Some at.0 → (k : ℕ) → IsTablePlace z w k → (suc n < k) ⊎ ((k < n) ⊎ ((n + 1 ≡ k) ⊎ (n ≡ k))) → (n + 1 ≡ k) ⊎ (n ≡ k)
    near is k placed (inl less) = absurd (not_behind w _ (table_behind z w k n at.0 lawful placed is less) at.2)
    near is k placed (inr (inl more)) = absurd (not_ahead w _ (table_ahead z w k n at.0 lawful placed is more) at.2)
    near is k placed (inr (inr here)) = here

    by : Stands z n at.0 → (n + 1 ≡ table_place z w) ⊎ (n ≡ table_place z w)
    by (in_table lt is) = near is (table_place z w) place (four n (table_place z w))
    by (is_first r j year here is) = absurd (not_ahead w _ (past_ahead z w n at.0 lawful (before_year z.rule y w of before) at.1 (omega arith)) at.2)
    by (is_second r j year here is) = absurd (not_ahead w _ (past_ahead z w n at.0 lawful (before_year z.rule y w of before) at.1 (omega arith)) at.2)

-- ---- the law

for_rule : (P : PlainRule → Type 0) (o : Option PlainRule) → ((r : PlainRule) → o ≡ Some r → P r) → IfSome o P
for_rule P None h = tt
for_rule P (Some r) h = h r refl

pub two-candidates : (z : PlainZone) (y w : ℤ) → IsLawful z → IsOfYear y w → HasTwoCandidates z y w
two-candidates z y w lawful of = record {
  by_rule = for_rule (λ r. r.first_year ≤ℤ y → (n : ℕ) → IsInStretch z w n → IsRuleEntry z r y n) z.rule
      (λ r rule from n stretch. (stretch_in_rule z r y w n lawful rule from of stretch).0);
  past_rule = for_rule (λ r. r.first_year ≤ℤ y → pos 2147483647 ≤ℤ y → (n : ℕ) → IsInStretch z w n → ⊥) z.rule
      (λ r rule from past n stretch. let below = (stretch_in_rule z r y w n lawful rule from of stretch).1 in omega (arith, ints, past, below));
  by_table = λ before n stretch. stretch_in_table z y w n lawful before of stretch;
}
