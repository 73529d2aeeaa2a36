-- The laws of a zone, from what its checker tests.
use Rattle.std.proofs.Common.{◌≡◌, ℕ, suc, ◌+◌, ◌<◌, ◌≤◌, nat_lt, nat_le, Bool, List, length, slice_get, Option, Some, option_map, sym, ap, subst, ◌∙◌, ℤ, ◌+ℤ◌, arith}
use Rattle.std.proofs.lemmas.Option.{same_Some}
use Rattle.std.specs.Int.{int_min, int_max}
use Rattle.std.proofs.lemmas.Int.{ints, clamps}
use Rattle.std.proofs.lemmas.Option.{slice_get_within}
use Rattle.timeline.specs.declared.offset.Offset.{Offset}
use Rattle.timeline.specs.declared.offset.Transition.{Transition}
use Rattle.timeline.specs.declared.fault.ZoneFault.{ZoneFault}
use Rattle.timeline.specs.declared.check.Walls.{Walls}
use Rattle.timeline.specs.Timeline.{offset_of}
use Rattle.timeline.specs.Inside.LeastFaults.{TellsLeast}
use Rattle.timeline.proofs.LeastFaults.{Told, tells-same}
use Rattle.timeline.proofs.TimelineEntries.{is_there}
use Rattle.timeline.specs.Neighbours.{Step, IsNear, IsWalled}
use Rattle.timeline.specs.TableLaws.{IsSmall}
use Rattle.timeline.specs.Laws.{EndsBefore, LiesIn}
use Rattle.timeline.specs.Inside.EntryWalls.{walls, AreNear, AreWalled, EndBefore, LieIn}
use Rattle.timeline.specs.Inside.EntryLaws.{EntryKeeps}
use Rattle.timeline.specs.Inside.TableChecks.{IsSecondAt, IsSecondBefore, KeepsAt, TableKeeps, table_walls, walls_before}

-- walls by their parts
pub walls_are : (s : Step) (a b c : ℤ) → a ≡ s.since → b ≡ s.since +ℤ int_min s.before s.after → c ≡ s.since +ℤ int_max s.before s.after
    → let w : Walls = record { since = a; earliest = b; latest = c } in w ≡ walls s
walls_are s a b c d e f = ap (λ x. made x b c) d ∙ ap (λ x. made s.since x c) e ∙ ap (λ x. made s.since (s.since +ℤ int_min s.before s.after) x) f
  where
    made : ℤ → ℤ → ℤ → Walls
    made a b c = record { since = a; earliest = b; latest = c }

-- both walls, or the later and the earlier one
pub near-there : (a b : Step) → IsNear a b → AreNear (walls a) (walls b)
near-there a b h = record { to_second = omega (arith, ints, clamps, h.old, h.new); from_second = omega (arith, ints, clamps, h.to_old, h.to_new) }

pub near-back : (a b : Step) → AreNear (walls a) (walls b) → IsNear a b
near-back a b h = record {
  old = omega (arith, ints, clamps, h.to_second);
  new = omega (arith, ints, clamps, h.to_second);
  to_old = omega (arith, ints, clamps, h.from_second);
  to_new = omega (arith, ints, clamps, h.from_second);
}

pub walled-there : (a b : Step) → IsWalled a b → AreWalled (walls a) (walls b)
walled-there a b h = omega (arith, ints, clamps, h.old_old, h.old_new, h.new_old, h.new_new)

pub walled-back : (a b : Step) → AreWalled (walls a) (walls b) → IsWalled a b
walled-back a b h = record {
  old_old = omega (arith, ints, clamps, h);
  old_new = omega (arith, ints, clamps, h);
  new_old = omega (arith, ints, clamps, h);
  new_new = omega (arith, ints, clamps, h);
}

pub ends-there : (limit : ℤ) (s : Step) → EndsBefore limit s → EndBefore limit (walls s)
ends-there limit s h = record { since = h.since; latest = omega (arith, ints, clamps, h.old, h.new) }

pub ends-back : (limit : ℤ) (s : Step) → EndBefore limit (walls s) → EndsBefore limit s
ends-back limit s h = record { since = h.since; old = omega (arith, ints, clamps, h.latest); new = omega (arith, ints, clamps, h.latest) }

pub lies-there : (low high : ℤ) (s : Step) → LiesIn low high s → LieIn low high (walls s)
lies-there low high s h = (
  record { since = h.from; earliest = omega (arith, ints, clamps, h.old_from, h.new_from) },
  record { since = h.to; latest = omega (arith, ints, clamps, h.old_to, h.new_to) },
)

pub lies-back : (low high : ℤ) (s : Step) → LieIn low high (walls s) → LiesIn low high s
lies-back low high s h = record {
  from = h.0.since;
  to = h.1.since;
  old_from = omega (arith, ints, clamps, h.0.earliest);
  old_to = omega (arith, ints, clamps, h.1.latest);
  new_from = omega (arith, ints, clamps, h.0.earliest);
  new_to = omega (arith, ints, clamps, h.1.latest);
}

-- ---- the table

-- what was read of an entry
pub since_read : (table : List Transition) (n : ℕ) (s : ℤ) (e : Transition) → IsSecondAt table n s → slice_get table n ≡ Some e → e.since ≡ s
since_read table n s e read get = same_Some e.since s (sym (ap (option_map (λ (e : Transition). e.since)) get) ∙ read)

pub offset_read : (table : List Transition) (n : ℕ) (o : Offset) (e : Transition) → option_map offset_of (slice_get table n) ≡ Some o → slice_get table n ≡ Some e → o.offset ≡ e.offset
offset_read table n o e read get = ap (λ (x : Offset). x.offset) (same_Some o (offset_of e) (sym read ∙ ap (option_map offset_of) get))

-- the walls of the entry before the nth one
pub walls_before-is : (before_all : Offset) (table : List Transition) (n k : ℕ) (w : Walls) → n ≡ suc k → k < length table
    → ((e : Transition) → slice_get table k ≡ Some e → w ≡ table_walls before_all table k e) → Some w ≡ walls_before before_all table n
walls_before-is before_all table n k w next within is =
    let there = is_there table k within in
    let P : Option Transition → Type 0 = λ o. Some w ≡ option_map (table_walls before_all table k) o in
    let Q : ℕ → Type 0 = λ m. Some w ≡ walls_before before_all table m in
    subst Q (sym next) (subst P (sym there.1) (ap Some (is there.0 there.1)))

-- what was tested at the nth entry
pub entry_told : (before_all : Offset) (table : List Transition) (early late n : ℕ) (limit : Option ℤ) (entry : Transition) (e l : Bool) (previous : Option Walls) (w : Walls) (after : ℤ) (r : Told)
    → slice_get table n ≡ Some entry → e ≡ nat_lt n early → l ≡ nat_le (length table) (n + late) → previous ≡ walls_before before_all table n → w ≡ table_walls before_all table n entry → after ≡ entry.offset
    → TellsLeast (EntryKeeps e l previous w after limit) r → TellsLeast (λ f. KeepsAt before_all table early late limit f n) r
entry_told before_all table early late n limit entry e l previous w after r get is_early is_late before is_walls is_after h =
    let K : Bool → Bool → Option Walls → Walls → ℤ → ZoneFault → Type 0 = λ e l p w a f. EntryKeeps e l p w a limit f in
    let P1 : Bool → Type 0 = λ x. TellsLeast (EntryKeeps x l previous w after limit) r in
    let P2 : Bool → Type 0 = λ x. TellsLeast (EntryKeeps (nat_lt n early) x previous w after limit) r in
    let P3 : Option Walls → Type 0 = λ x. TellsLeast (EntryKeeps (nat_lt n early) (nat_le (length table) (n + late)) x w after limit) r in
    let P4 : Walls → Type 0 = λ x. TellsLeast (EntryKeeps (nat_lt n early) (nat_le (length table) (n + late)) (walls_before before_all table n) x after limit) r in
    let P5 : ℤ → Type 0 = λ x. TellsLeast (EntryKeeps (nat_lt n early) (nat_le (length table) (n + late)) (walls_before before_all table n) (table_walls before_all table n entry) x limit) r in
    let told = subst P5 is_after (subst P4 is_walls (subst P3 before (subst P2 is_late (subst P1 is_early h)))) in
    tells-same (EntryKeeps (nat_lt n early) (nat_le (length table) (n + late)) (walls_before before_all table n) (table_walls before_all table n entry) entry.offset limit)
    (λ f. KeepsAt before_all table early late limit f n) r
    (λ f kept other got. let Q : Transition → Type 0 = λ x. EntryKeeps (nat_lt n early) (nat_le (length table) (n + late)) (walls_before before_all table n) (table_walls before_all table n x) x.offset limit f in
    subst Q (same_Some entry other (sym get ∙ got)) kept)
    (λ f all. all entry get) told

-- the second of an entry is the one before that of the next
pub second_passed : (table : List Transition) (n : ℕ) (s : ℤ) → IsSecondAt table n s → IsSecondBefore table (n + 1) s
second_passed table n s read m next =
    let same : n ≡ m = omega (arith, next) in
    let P : ℕ → Type 0 = λ k. IsSecondAt table k s in
    subst P same read

-- the whole table
pub table_told : (before_all : Offset) (table : List Transition) (early late n : ℕ) (limit : Option ℤ) (r : Told) → length table ≤ n
    → TellsLeast (λ f. (m : ℕ) → m < n → KeepsAt before_all table early late limit f m) r → TellsLeast (TableKeeps before_all table early late limit) r
table_told before_all table early late n limit r whole h =
    tells-same (λ f. (m : ℕ) → m < n → KeepsAt before_all table early late limit f m) (TableKeeps before_all table early late limit) r
    (λ f all m e get. let inside = slice_get_within table m e get in all m (omega (arith, inside)) e get)
    (λ f all m less. all m) h

pub small_moved : (a b : ℤ) → a ≡ b → IsSmall a → IsSmall b
small_moved a b e h = let P : ℤ → Type 0 = IsSmall in subst P e h
