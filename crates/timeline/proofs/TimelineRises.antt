-- The entries of a lawful zone rise, and keep apart as the laws want it of neighbours: in the table, in a year of the rule, from
-- the table to the rule, and from a year to the next.
use Rattle.std.proofs.Common.{◌≡◌, ℕ, zero, suc, ◌+◌, ◌*◌, ◌<◌, Bool, true, false, not, ◌⊎◌, inl, inr, length, Option, Some, None, ℤ, pos, ◌+ℤ◌, ◌<ℤ◌, ◌≤ℤ◌, refl, sym, ap, ◌∙◌, arith}
use Rattle.std.specs.Prelude.{slice_get, IfSome}
use Rattle.std.specs.Ordering.{int_eq}
use Rattle.std.proofs.lemmas.Int.{ints}
use Rattle.civil.specs.Calendar.{year_second}
use Rattle.timeline.specs.declared.offset.Offset.{Offset}
use Rattle.timeline.specs.declared.offset.Transition.{Transition}
use Rattle.timeline.specs.Zone.{PlainZone, PlainRule}
use Rattle.timeline.specs.Rule.{start_is_first, start_entry, end_entry, first_entry, second_entry}
use Rattle.timeline.specs.Timeline.{entry_at, before_entry, offset_of}
use Rattle.timeline.specs.Laws.{IsLawful, EndsBefore, LiesIn, IsYearLawful}
use Rattle.timeline.specs.Neighbours.{Step, step, IsNear, IsWalled}
use Rattle.timeline.specs.EntryPromises.{IsFollowedBy}
use Rattle.timeline.proofs.Entries.{below_or_not}
use Rattle.timeline.proofs.Chain.{Follows, IsChain, step_at}
use Rattle.timeline.proofs.TimelineEntries.{IsRuleYear, Stands, in_table, is_first, is_second, stands, first_at, second_at, before_next, same_second, entry_count, entry_there}

-- ---- steps

-- the second comes later, and as far apart as neighbours have to be
pub record IsLater (a b : Step) : Type 0 where
  pub rises : a.since <ℤ b.since
  pub near : IsNear a b
  pub walled : IsWalled a b

later_follows : (a b : Step) → IsLater a b → Follows a b
later_follows a b h = record {
  rises = omega (arith, ints, h.rises);
  alone = λ le. absurd (omega (arith, ints, le, h.rises));
  near = h.near;
  walled = h.walled;
}

-- one ends where the other's year begins
parted : (limit high : ℤ) (a b : Step) → EndsBefore limit a → LiesIn limit high b → IsLater a b
parted limit high a b ends lies = record {
  rises = omega (arith, ints, ends.since, lies.from);
  near = record {
    old = omega (arith, ints, ends.old, lies.from);
    new = omega (arith, ints, ends.new, lies.from);
    to_old = omega (arith, ints, ends.since, lies.old_from);
    to_new = omega (arith, ints, ends.since, lies.new_from);
  };
  walled = record {
    old_old = omega (arith, ints, ends.old, lies.old_from);
    old_new = omega (arith, ints, ends.old, lies.new_from);
    new_old = omega (arith, ints, ends.new, lies.old_from);
    new_new = omega (arith, ints, ends.new, lies.new_from);
  };
}

year_ends : (low high : ℤ) (s : Step) → LiesIn low high s → EndsBefore high s
year_ends low high s lies = record { since = lies.to; old = lies.old_to; new = lies.new_to }

-- the two of one year: the second brings back what held before the first
in_year : (a b : Step) → a.after ≡ b.before → b.after ≡ a.before → IsNear a b → IsWalled a b → Follows a b
in_year a b joined back near walled = record {
  rises = omega (arith, ints, back, walled.old_new);
  alone = λ le. (omega (arith, ints, joined, back, le, walled.old_old, walled.new_new), omega (arith, ints, joined, back, le, walled.old_old, walled.new_new));
  near = near;
  walled = walled;
}

-- ---- the laws of a rule

pub if_some : (P : PlainRule → Type 0) (o : Option PlainRule) (r : PlainRule) → o ≡ Some r → IfSome o P → P r
if_some P o r is h = rw is at h

pub year_law : (z : PlainZone) (r : PlainRule) (j : ℕ) → IsLawful z → IsRuleYear z r j → IsYearLawful r (r.first_year +ℤ pos j)
year_law z r j lawful year =
    if_some (λ r. (y : ℤ) → r.first_year ≤ℤ y → y <ℤ pos 2147483647 → IsYearLawful r y) z.rule r year.rule lawful.year (r.first_year +ℤ pos j) (omega (arith, ints)) year.below

-- the rule takes to hold before an entry what the timeline has there
pub before_first : (z : PlainZone) (r : PlainRule) (j n : ℕ) → IsLawful z → IsRuleYear z r j → n ≡ length z.table + 2 * j
    → before_entry z n ≡ offset_of (second_entry r (r.first_year +ℤ pos j))
before_first z r zero n lawful year place =
    let at_end : n ≡ length z.table = omega arith in
    rw at_end (if_some (λ r. before_entry z (length z.table) ≡ offset_of (second_entry r r.first_year)) z.rule r year.rule lawful.before ∙ same_second r _ _)
before_first z r (suc j) n lawful year place =
    let last_year : IsRuleYear z r j = record { rule = year.rule; below = (let below = year.below in omega (arith, ints, below)) } in
    let after : n ≡ suc (suc (length z.table + 2 * j)) = omega arith in
    rw after (before_next z _ _ (second_at z r j _ last_year refl) ∙ same_second r _ _)

pub before_second : (z : PlainZone) (r : PlainRule) (j n : ℕ) → IsRuleYear z r j → n ≡ suc (length z.table + 2 * j)
    → before_entry z n ≡ offset_of (first_entry r (r.first_year +ℤ pos j))
before_second z r j n year place = rw place (before_next z _ _ (first_at z r j _ year refl))

-- the nth entry e of a zone, as a step of its timeline
abbrev pub step_of : PlainZone → ℕ → Transition → Step
step_of z n e = step (before_entry z n) e

-- the year y of a rule holds a step
abbrev pub LiesInYear : ℤ → Step → Type 0
LiesInYear y s = LiesIn (year_second y) (year_second (y +ℤ pos 1)) s

pub first_lies : (z : PlainZone) (r : PlainRule) (j n : ℕ) (e : Transition) → IsLawful z → IsRuleYear z r j → n ≡ length z.table + 2 * j → e ≡ first_entry r (r.first_year +ℤ pos j)
    → LiesInYear (r.first_year +ℤ pos j) (step_of z n e)
first_lies z r j n e lawful year place is = rw (before_first z r j n lawful year place, is) (year_law z r j lawful year).first

pub second_lies : (z : PlainZone) (r : PlainRule) (j n : ℕ) (e : Transition) → IsLawful z → IsRuleYear z r j → n ≡ suc (length z.table + 2 * j) → e ≡ second_entry r (r.first_year +ℤ pos j)
    → LiesInYear (r.first_year +ℤ pos j) (step_of z n e)
second_lies z r j n e lawful year place is = rw (before_second z r j n year place, is) (year_law z r j lawful year).second

-- the table ends before the first year
pub table_ends : (z : PlainZone) (r : PlainRule) (n : ℕ) (e : Transition) → IsLawful z → z.rule ≡ Some r → slice_get z.table n ≡ Some e
    → EndsBefore (year_second r.first_year) (step_of z n e)
table_ends z r n e lawful rule at =
    if_some (λ r. (n : ℕ) (e : Transition) → slice_get z.table n ≡ Some e → EndsBefore (year_second r.first_year) (step (before_entry z n) e)) z.rule r rule lawful.seam n e at

-- ---- neighbours

in_table_later : (z : PlainZone) (n : ℕ) (a b : Transition) → IsLawful z → slice_get z.table n ≡ Some a → slice_get z.table (suc n) ≡ Some b → IsLater (step_of z n a) (step (offset_of a) b)
in_table_later z n a b lawful at_a at_b =
    let next : suc n ≡ n + 1 = omega arith in
    let at_next : slice_get z.table (n + 1) ≡ Some b = rw (← next) at_b in
    record { rises = lawful.order n a b at_a at_next; near = lawful.near.table n a b at_a at_next; walled = lawful.walls.table n a b at_a at_next }

-- the last of the table, and the first of the rule
seam_later : (z : PlainZone) (r : PlainRule) (j n : ℕ) (a b : Transition) → IsLawful z → IsRuleYear z r j → j ≡ 0 → slice_get z.table n ≡ Some a
    → LiesInYear (r.first_year +ℤ pos j) (step (offset_of a) b) → IsLater (step_of z n a) (step (offset_of a) b)
seam_later z r j n a b lawful year none at lies =
    let first : r.first_year +ℤ pos j ≡ r.first_year = omega (arith, ints, none) in
    let ends = table_ends z r n a lawful year.rule at in
    let low : EndsBefore (year_second (r.first_year +ℤ pos j)) (step_of z n a) = rw first ends in
    parted _ _ _ _ low lies

-- the second of a year, and the first of the next
next_year_later : (r : PlainRule) (i j : ℕ) (a b : Step) → j ≡ suc i → LiesInYear (r.first_year +ℤ pos i) a → LiesInYear (r.first_year +ℤ pos j) b → IsLater a b
next_year_later r i j a b next lies_a lies_b =
    let same : r.first_year +ℤ pos i +ℤ pos 1 ≡ r.first_year +ℤ pos j = omega (arith, ints, next) in
    let ends = year_ends _ _ a lies_a in
    let low : EndsBefore (year_second (r.first_year +ℤ pos j)) a = rw (← same) ends in
    parted _ _ a b low lies_b

-- the two of one year
year_follows : (z : PlainZone) (r : PlainRule) (j n : ℕ) (a b : Transition) → IsLawful z → IsRuleYear z r j → n ≡ length z.table + 2 * j
    → a ≡ first_entry r (r.first_year +ℤ pos j) → b ≡ second_entry r (r.first_year +ℤ pos j) → Follows (step_of z n a) (step (offset_of a) b)
year_follows z r j n a b lawful year place a_is b_is =
    rw (before_first z r j n lawful year place, a_is, b_is)
    (in_year _ _ refl refl
    (if_some (λ r. (y : ℤ) → r.first_year ≤ℤ y → y <ℤ pos 2147483647 → IsNear (step (offset_of (second_entry r y)) (first_entry r y)) (step (offset_of (first_entry r y)) (second_entry r y)))
    z.rule r year.rule lawful.near.years (r.first_year +ℤ pos j) (omega (arith, ints)) year.below)
    (if_some (λ r. (y : ℤ) → r.first_year ≤ℤ y → y <ℤ pos 2147483647 → IsWalled (step (offset_of (second_entry r y)) (first_entry r y)) (step (offset_of (first_entry r y)) (second_entry r y)))
    z.rule r year.rule lawful.walls.years (r.first_year +ℤ pos j) (omega (arith, ints)) year.below))

-- where they share a second, the extra offset is 0, so they are equal
no_flag : (raw extra : ℤ) → raw +ℤ extra ≡ raw → not (int_eq extra (pos 0)) ≡ false
no_flag raw extra same = let none : extra ≡ pos 0 = omega (arith, ints, same) in rw none refl

start_is_end : (r : PlainRule) (y : ℤ) → (start_entry r y).since ≡ (end_entry r y).since → r.raw +ℤ r.extra ≡ r.raw → start_entry r y ≡ end_entry r y
start_is_end r y since offset = rw (since, no_flag r.raw r.extra offset, offset) refl

first_is_second : (r : PlainRule) (y : ℤ) → (first_entry r y).since ≡ (second_entry r y).since → (first_entry r y).offset ≡ (second_entry r y).offset → first_entry r y ≡ second_entry r y
first_is_second r y since offset = by (start_is_first r) refl
  where
    by : (c : Bool) → start_is_first r ≡ c → first_entry r y ≡ second_entry r y
    by true h = let s = rw h at since in let o = rw h at offset in rw h (start_is_end r y s o)
    by false h = let s = rw h at since in let o = rw h at offset in rw h (sym (start_is_end r y (sym s) (sym o)))

-- an entry and the next: they rise, or are equal
pub record AreNeighbours (z : PlainZone) (n : ℕ) (a b : Transition) : Type 0 where
  pub follows : Follows (step_of z n a) (step (offset_of a) b)
  pub rises : (a.since <ℤ b.since) ⊎ (a ≡ b)

later_neighbours : (z : PlainZone) (n : ℕ) (a b : Transition) → IsLater (step_of z n a) (step (offset_of a) b) → AreNeighbours z n a b
later_neighbours z n a b h = record { follows = later_follows _ _ h; rises = inl h.rises }

year_neighbours : (z : PlainZone) (r : PlainRule) (j n : ℕ) (a b : Transition) → IsLawful z → IsRuleYear z r j → n ≡ length z.table + 2 * j
    → a ≡ first_entry r (r.first_year +ℤ pos j) → b ≡ second_entry r (r.first_year +ℤ pos j) → AreNeighbours z n a b
year_neighbours z r j n a b lawful year place a_is b_is =
    record { follows = follows; rises = elim (below_or_not a.since b.since) as (λ _. (a.since <ℤ b.since) ⊎ (a ≡ b)) [ inl lt ↦ inl lt | inr le ↦ inr (same le) ] }
  where
    follows : Follows (step_of z n a) (step (offset_of a) b)
    follows = year_follows z r j n a b lawful year place a_is b_is

    same : b.since ≤ℤ a.since → a ≡ b
    same le =
        let up = follows.rises in
        let since : a.since ≡ b.since = omega (arith, ints, up, le) in
        let offset : a.offset ≡ b.offset = (follows.alone le).1 in
        let equal = first_is_second r (r.first_year +ℤ pos j) (rw (a_is, b_is) at since) (rw (a_is, b_is) at offset) in
        a_is ∙ equal ∙ sym b_is

pub same_rule : (z : PlainZone) (r r' : PlainRule) → z.rule ≡ Some r → z.rule ≡ Some r' → r' ≡ r
same_rule z r r' is is' = cc

pub neighbours : (z : PlainZone) (n : ℕ) (a b : Transition) → IsLawful z → entry_at z n ≡ Some a → entry_at z (suc n) ≡ Some b → AreNeighbours z n a b
neighbours z n a b lawful at_a at_b = by (stands z n a at_a) (stands z (suc n) b at_b)
  where
    before_b : before_entry z (suc n) ≡ offset_of a
    before_b = before_next z n a at_a

    as_next : (y : ℤ) → LiesInYear y (step_of z (suc n) b) → LiesInYear y (step (offset_of a) b)
    as_next y lies = rw before_b at lies

    by : Stands z n a → Stands z (suc n) b → AreNeighbours z n a b
    by (in_table lt is) (in_table lt' is') = later_neighbours z n a b (in_table_later z n a b lawful is is')
    by (in_table lt is) (is_first r j year place is') =
        later_neighbours z n a b (seam_later z r j n a b lawful year (omega arith) is (as_next _ (first_lies z r j (suc n) b lawful year place is')))
    by (in_table lt is) (is_second r j year place is') = absurd (omega arith)
    by (is_first r i year place is) (in_table lt' is') = absurd (omega arith)
    by (is_first r i year place is) (is_first r' j year' place' is') = absurd (omega arith)
    by (is_first r i year place is) (is_second r' j year' place' is') =
        let rule = same_rule z r r' year.rule year'.rule in
        let year_is : j ≡ i = omega arith in
        year_neighbours z r i n a b lawful year place is (rw (rule, year_is) at is')
    by (is_second r i year place is) (in_table lt' is') = absurd (omega arith)
    by (is_second r i year place is) (is_first r' j year' place' is') =
        let rule = same_rule z r r' year.rule year'.rule in
        let lies_b = as_next _ (first_lies z r' j (suc n) b lawful year' place' is') in
        later_neighbours z n a b (next_year_later r i j _ _ (omega arith) (second_lies z r i n a lawful year place is) (rw rule at lies_b))
    by (is_second r i year place is) (is_second r' j year' place' is') = absurd (omega arith)

pub entries-rise : (z : PlainZone) (n : ℕ) (a b : Transition) → IsLawful z → entry_at z n ≡ Some a → entry_at z (n + 1) ≡ Some b → IsFollowedBy (before_entry z n) a b
entries-rise z n a b lawful at_a at_b =
    let next : n + 1 ≡ suc n = omega arith in
    let both = neighbours z n a b lawful at_a (rw next at at_b) in
    record { rises = both.rises; near = both.follows.near; walls = both.follows.walled }

-- ---- the entries as numbers

since_or : Option Transition → ℤ
since_or None = pos 0
since_or (Some e) = e.since

pub entry_since : PlainZone → ℕ → ℤ
entry_since z n = since_or (entry_at z n)

pub before_offset : PlainZone → ℕ → ℤ
before_offset z n = (before_entry z n).offset

pub since_is : (z : PlainZone) (n : ℕ) (e : Transition) → entry_at z n ≡ Some e → entry_since z n ≡ e.since
unfolding entry_since since_or
since_is z n e at = rw at refl

pub before_is : (z : PlainZone) (n : ℕ) → before_offset z n ≡ (before_entry z n).offset
unfolding before_offset
before_is z n = refl

pub after_is : (z : PlainZone) (n : ℕ) (e : Transition) → entry_at z n ≡ Some e → before_offset z (suc n) ≡ e.offset
unfolding before_offset
after_is z n e at = ap (λ (o : Offset). o.offset) (before_next z n e at)

-- the nth step of the numbers is that of the entry
pub step_is : (z : PlainZone) (n : ℕ) (e : Transition) → entry_at z n ≡ Some e → step_at (entry_since z) (before_offset z) n ≡ step_of z n e
step_is z n e at = rw (since_is z n e at, before_is z n, after_is z n e at) refl

pub lawful_chain : (z : PlainZone) → IsLawful z → IsChain (entry_count z) (entry_since z) (before_offset z)
lawful_chain z lawful = record { follows = follows }
  where
    follows : (n : ℕ) → suc n < entry_count z → Follows (step_at (entry_since z) (before_offset z) n) (step_at (entry_since z) (before_offset z) (suc n))
    follows n lt =
        let a = entry_there z n (omega arith) in
        let b = entry_there z (suc n) lt in
        let follow = (neighbours z n a.0 b.0 lawful a.1 b.1).follows in
        let before : before_entry z (suc n) ≡ offset_of a.0 = before_next z n a.0 a.1 in
        rw (step_is z n a.0 a.1, step_is z (suc n) b.0 b.1, before) follow
