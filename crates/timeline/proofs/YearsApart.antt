-- A year whose transitions lie days from its ends and from each other keeps the laws, if the offsets of its rule are small.
use Rattle.std.proofs.Common.{◌≡◌, ◌≤◌, ◌==◌, Bool, true, false, cond, ℤ, pos, ◌+ℤ◌, ◌-ℤ◌, ◌*ℤ◌, ◌<ℤ◌, ◌≤ℤ◌, sym, ap, subst, ◌∙◌, arith}
use Rattle.std.proofs.lemmas.Int.{ints}
use Rattle.civil.specs.Calendar.{year_second}
use Rattle.civil.specs.Laws.{CountsYears, KindsOfYear}
use Rattle.timeline.specs.RulePromises.{RulesGoByKind}
use Rattle.timeline.specs.declared.fault.ZoneFault.{ZoneFault}
use Rattle.timeline.specs.Zone.{DateRule, PlainRule}
use Rattle.timeline.specs.Rule.{rule_second, start_is_first, first_entry, second_entry}
use Rattle.timeline.specs.Timeline.{offset_of}
use Rattle.timeline.specs.Neighbours.{Step, step, IsNear, IsWalled}
use Rattle.timeline.specs.TableLaws.{IsSmall}
use Rattle.timeline.specs.Laws.{LiesIn}
use Rattle.timeline.specs.Inside.KeptRules.{places_of, KeptRule, kept_rule, LieWithin}
use Rattle.timeline.specs.Inside.RuleChecks.{YearKeeps}
use Rattle.timeline.specs.Inside.Apart.{LieApart}
use Rattle.timeline.proofs.LeastFaults.{all_kept}
use Rattle.timeline.proofs.SmallOffsets.{first_small, second_small}
use Rattle.timeline.proofs.KeptRules.{date_within}
use Rattle.timeline.proofs.CheckYears.{year_long}

-- a step by small offsets
record Small (s : Step) : Type 0 where
  before : IsSmall s.before
  after : IsSmall s.after

near_apart : (low high : ℤ) (a b : Step) → LieApart low a.since b.since high → Small a → Small b → IsNear a b
near_apart low high a b h s t = record {
  old = omega (arith, ints, h.between, s.before.1);
  new = omega (arith, ints, h.between, s.after.1);
  to_old = omega (arith, ints, h.between, t.before.0);
  to_new = omega (arith, ints, h.between, t.after.0);
}

walled_apart : (low high : ℤ) (a b : Step) → LieApart low a.since b.since high → Small a → Small b → IsWalled a b
walled_apart low high a b h s t = record {
  old_old = omega (arith, ints, h.between, s.before.1, t.before.0);
  old_new = omega (arith, ints, h.between, s.before.1, t.after.0);
  new_old = omega (arith, ints, h.between, s.after.1, t.before.0);
  new_new = omega (arith, ints, h.between, s.after.1, t.after.0);
}

-- a step a day or more from the ends of a year
lies_apart : (low high : ℤ) (s : Step) → (low +ℤ pos 86400) ≤ℤ s.since → (s.since +ℤ pos 86400) ≤ℤ high → Small s → LiesIn low high s
lies_apart low high s from to small = record {
  from = omega (arith, ints, from);
  to = omega (arith, ints, to);
  old_from = omega (arith, ints, from, small.before.0);
  old_to = omega (arith, ints, to, small.before.1);
  new_from = omega (arith, ints, from, small.after.0);
  new_to = omega (arith, ints, to, small.after.1);
}

pub year_shown : (r : PlainRule) (y : ℤ) → LieApart (year_second y) (first_entry r y).since (second_entry r y).since (year_second (y +ℤ pos 1))
    → IsSmall r.raw × IsSmall (r.raw +ℤ r.extra) → (f : ZoneFault) → YearKeeps r y f
year_shown r y h small =
    let first = step (offset_of (second_entry r y)) (first_entry r y) in
    let second = step (offset_of (first_entry r y)) (second_entry r y) in
    let low = year_second y in
    let high = year_second (y +ℤ pos 1) in
    let one : Small first = record { before = second_small r y small; after = first_small r y small } in
    let other : Small second = record { before = first_small r y small; after = second_small r y small } in
    all_kept (YearKeeps r y) tt tt tt (near_apart low high first second h one other) (walled_apart low high first second h one other) tt tt (record {
      first = lies_apart low high first h.begin (omega (arith, ints, h.between, h.end)) one;
      second = lies_apart low high second (omega (arith, ints, h.begin, h.between)) h.end other;
    })

-- ---- from the places of the dates

-- what a date is counted by is small
small_counted : (a b : Bool) (before raw : ℤ) → IsSmall before → IsSmall raw → IsSmall (cond a before (cond b raw (pos 0)))
small_counted true b before raw h s = h
small_counted false true before raw h s = s
small_counted false false before raw h s = (omega (arith, ints), omega (arith, ints))

-- the second of a date lies from a day before its place to two days after it
record LiesNear (y from to second : ℤ) : Type 0 where
  low : (year_second y +ℤ pos 86400 *ℤ (from -ℤ pos 1)) <ℤ second
  high : second <ℤ (year_second y +ℤ pos 86400 *ℤ (to +ℤ pos 2))

second_near : KindsOfYear → RulesGoByKind → (r : DateRule) (before raw from to y : ℤ) → r.seconds ≤ 86400 → IsSmall before → IsSmall raw → LieWithin (places_of r) from to → LiesNear y from to (rule_second r before raw y)
unfolding rule_second
second_near kinds by_kind r before raw from to y seconds b s within =
    let date = date_within kinds by_kind r from to y within in
    let counted = small_counted (r.mode == 0) (r.mode == 1) before raw b s in
    record { low = omega (arith, ints, date.0, counted.1); high = omega (arith, ints, date.1, counted.0, seconds) }

halves_apart : CountsYears → (y a b : ℤ) → LiesNear y (pos 2) (pos 180) a → LiesNear y (pos 185) (pos 362) b → LieApart (year_second y) a b (year_second (y +ℤ pos 1))
halves_apart counts y a b h t = record {
  begin = omega (arith, ints, h.low);
  between = omega (arith, ints, h.high, t.low);
  end = omega (arith, ints, t.high, year_long counts y);
}

-- a rule with offsets of less than a day, the places of whose dates lie within those given
pub record LieInHalves (k : KeptRule) (start_from start_to end_from end_to : ℤ) : Type 0 where
  pub raw : IsSmall k.raw
  pub sum : IsSmall (k.raw +ℤ k.extra)
  pub start_seconds : k.start.seconds ≤ 86400
  pub end_seconds : k.end.seconds ≤ 86400
  pub start : LieWithin k.start.places start_from start_to
  pub end : LieWithin k.end.places end_from end_to

-- its transitions lie apart in each year, whichever is first
pub start_apart : CountsYears → KindsOfYear → RulesGoByKind → (r : PlainRule) (k : KeptRule) (y : ℤ) → k ≡ kept_rule r → k.start_is_first ≡ true → LieInHalves k (pos 2) (pos 180) (pos 185) (pos 362)
    → LieApart (year_second y) (first_entry r y).since (second_entry r y).since (year_second (y +ℤ pos 1))
unfolding kept_rule
start_apart counts kinds by_kind r k y is first k_lies =
    let P : KeptRule → Type 0 = λ k. LieInHalves k (pos 2) (pos 180) (pos 185) (pos 362) in
    let h = subst P is k_lies in
    let first_is : start_is_first r ≡ true = sym (ap (λ (k : KeptRule). k.start_is_first) is) ∙ first in
    rw first_is (halves_apart counts y _ _ (second_near kinds by_kind r.start r.raw r.raw _ _ y h.start_seconds h.raw h.raw h.start) (second_near kinds by_kind r.end (r.raw +ℤ r.extra) r.raw _ _ y h.end_seconds h.sum h.raw h.end))

pub end_apart : CountsYears → KindsOfYear → RulesGoByKind → (r : PlainRule) (k : KeptRule) (y : ℤ) → k ≡ kept_rule r → k.start_is_first ≡ false → LieInHalves k (pos 185) (pos 362) (pos 2) (pos 180)
    → LieApart (year_second y) (first_entry r y).since (second_entry r y).since (year_second (y +ℤ pos 1))
unfolding kept_rule
end_apart counts kinds by_kind r k y is first k_lies =
    let P : KeptRule → Type 0 = λ k. LieInHalves k (pos 185) (pos 362) (pos 2) (pos 180) in
    let h = subst P is k_lies in
    let first_is : start_is_first r ≡ false = sym (ap (λ (k : KeptRule). k.start_is_first) is) ∙ first in
    rw first_is (halves_apart counts y _ _ (second_near kinds by_kind r.end (r.raw +ℤ r.extra) r.raw _ _ y h.end_seconds h.sum h.raw h.end) (second_near kinds by_kind r.start r.raw r.raw _ _ y h.start_seconds h.raw h.raw h.start))
