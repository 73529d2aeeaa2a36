-- Where the years of a rule begin among the entries of a lawful zone.
use Rattle.std.proofs.Common.{◌≡◌, ℕ, zero, suc, ◌+◌, ◌*◌, ◌<◌, ◌≤◌, length, Some, ℤ, pos, negsuc, ◌+ℤ◌, ◌-ℤ◌, ◌≤ℤ◌, refl, ◌∙◌, arith}
use Rattle.std.proofs.lemmas.Int.{ints}
use Rattle.civil.specs.Calendar.{year_second}
use Rattle.timeline.specs.declared.offset.Transition.{Transition}
use Rattle.timeline.specs.Zone.{PlainZone, PlainRule}
use Rattle.timeline.specs.Rule.{second_entry}
use Rattle.timeline.specs.Timeline.{entry_at, before_entry, offset_of}
use Rattle.timeline.specs.Laws.{IsLawful, EndsBefore}
use Rattle.timeline.specs.Neighbours.{Step, old_wall, new_wall}
use Rattle.timeline.proofs.Years.{years_rise}
use Rattle.timeline.proofs.TimelineEntries.{IsRuleYear, Stands, in_table, is_first, is_second, stands, second_at, before_next, same_second}
use Rattle.timeline.proofs.TimelineRises.{if_some, step_of, LiesInYear, first_lies, second_lies, table_ends, same_rule}

-- a later year is so many years later
pub years_from : (x y : ℤ) → x ≤ℤ y → (j : ℕ) × ((x +ℤ pos j) ≡ y)
years_from x y le = by (y -ℤ x) refl
  where
    by : (d : ℤ) → y -ℤ x ≡ d → (j : ℕ) × ((x +ℤ pos j) ≡ y)
    by (pos n) is = (n, omega (arith, ints, is))
    by (negsuc n) is = absurd (omega (arith, ints, is, le))

-- an entry past the table is one of a rule
pub rule_of : (z : PlainZone) (n : ℕ) (e : Transition) → entry_at z n ≡ Some e → length z.table ≤ n → (r : PlainRule) × (z.rule ≡ Some r)
rule_of z n e at past = by (stands z n e at)
  where
    by : Stands z n e → (r : PlainRule) × (z.rule ≡ Some r)
    by (in_table lt is) = absurd (omega arith)
    by (is_first r j year place is) = (r, year.rule)
    by (is_second r j year place is) = (r, year.rule)

-- a step and its walls are not before a second
pub record StartsFrom (limit : ℤ) (s : Step) : Type 0 where
  pub since : limit ≤ℤ s.since
  pub old : limit ≤ℤ old_wall s
  pub new : limit ≤ℤ new_wall s

ends_earlier : (low high : ℤ) (s : Step) → low ≤ℤ high → EndsBefore low s → EndsBefore high s
ends_earlier low high s le h = record { since = omega (arith, ints, le, h.since); old = omega (arith, ints, le, h.old); new = omega (arith, ints, le, h.new) }

lies_ends : (x y : ℤ) (s : Step) → (x +ℤ pos 1) ≤ℤ y → LiesInYear x s → EndsBefore (year_second y) s
lies_ends x y s le h =
    let up = years_rise (x +ℤ pos 1) y le in
    record { since = omega (arith, ints, up, h.to); old = omega (arith, ints, up, h.old_to); new = omega (arith, ints, up, h.new_to) }

lies_starts : (x y : ℤ) (s : Step) → y ≤ℤ x → LiesInYear x s → StartsFrom (year_second y) s
lies_starts x y s le h =
    let up = years_rise y x le in
    record { since = omega (arith, ints, up, h.from); old = omega (arith, ints, up, h.old_from); new = omega (arith, ints, up, h.new_from) }

-- what stands before the entries of the rule's jth year ends before that year
pub ends_before : (z : PlainZone) (r : PlainRule) (j n : ℕ) (e : Transition) → IsLawful z → z.rule ≡ Some r → entry_at z n ≡ Some e → n < length z.table + 2 * j
    → EndsBefore (year_second (r.first_year +ℤ pos j)) (step_of z n e)
ends_before z r j n e lawful rule at lt = by (stands z n e at)
  where
    by : Stands z n e → EndsBefore (year_second (r.first_year +ℤ pos j)) (step_of z n e)
    by (in_table within is) =
        ends_earlier _ _ _ (years_rise r.first_year (r.first_year +ℤ pos j) (omega (arith, ints))) (table_ends z r n e lawful rule is)
    by (is_first r' i year place is) =
        let same = same_rule z r r' rule year.rule in
        let less : i < j = omega arith in
        lies_ends _ _ _ (rw same (omega (arith, ints, less))) (first_lies z r' i n e lawful year place is)
    by (is_second r' i year place is) =
        let same = same_rule z r r' rule year.rule in
        let less : i < j = omega arith in
        lies_ends _ _ _ (rw same (omega (arith, ints, less))) (second_lies z r' i n e lawful year place is)

-- and the others start in it or later
pub starts_from : (z : PlainZone) (r : PlainRule) (j n : ℕ) (e : Transition) → IsLawful z → z.rule ≡ Some r → entry_at z n ≡ Some e → length z.table + 2 * j ≤ n
    → StartsFrom (year_second (r.first_year +ℤ pos j)) (step_of z n e)
starts_from z r j n e lawful rule at from = by (stands z n e at)
  where
    by : Stands z n e → StartsFrom (year_second (r.first_year +ℤ pos j)) (step_of z n e)
    by (in_table within is) = absurd (omega arith)
    by (is_first r' i year place is) =
        let same = same_rule z r r' rule year.rule in
        let more : j ≤ i = omega arith in
        lies_starts _ _ _ (rw same (omega (arith, ints, more))) (first_lies z r' i n e lawful year place is)
    by (is_second r' i year place is) =
        let same = same_rule z r r' rule year.rule in
        let more : j ≤ i = omega arith in
        lies_starts _ _ _ (rw same (omega (arith, ints, more))) (second_lies z r' i n e lawful year place is)

-- what holds after the last entry of a rule
pub before_end : (z : PlainZone) (r : PlainRule) (c : ℕ) (x : ℤ) → IsLawful z → z.rule ≡ Some r → ((j : ℕ) → j < c → IsRuleYear z r j)
    → before_entry z (length z.table + 2 * c) ≡ offset_of (second_entry r x)
before_end z r zero x lawful rule years =
    let at_end : length z.table + 2 * zero ≡ length z.table = omega arith in
    rw at_end (if_some (λ r. before_entry z (length z.table) ≡ offset_of (second_entry r r.first_year)) z.rule r rule lawful.before ∙ same_second r _ _)
before_end z r (suc j) x lawful rule years =
    let after : length z.table + 2 * suc j ≡ suc (suc (length z.table + 2 * j)) = omega arith in
    rw after (before_next z _ _ (second_at z r j _ (years j (omega arith)) refl) ∙ same_second r _ _)
