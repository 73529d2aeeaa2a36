-- Two transitions beside each other, and how they keep apart (docs/ZONES.md, "Laws").
use Rattle.std.specs.Prelude.{◌≡◌, ℕ, ◌+◌, slice_get, Some, IfSome, ℤ, ◌+ℤ◌, ◌<ℤ◌, ◌≤ℤ◌}
use Rattle.timeline.specs.declared.offset.Transition.{Transition}
use Rattle.timeline.specs.declared.offset.Offset.{Offset}
use Rattle.timeline.specs.Zone.{PlainZone, end_year}
use Rattle.timeline.specs.Rule.{first_entry, second_entry}
use Rattle.timeline.specs.Timeline.{before_entry, offset_of}

-- a transition with the offset before it: its walls are its second plus that offset, and plus its own
pub record Step : Type 0 where
  pub since : ℤ
  pub before : ℤ
  pub after : ℤ

-- a transition with the offset before it
abbrev pub step : Offset → Transition → Step
step before e = record { since = e.since; before = before.offset; after = e.offset }

-- the wall second at a transition by the offset before it
abbrev pub old_wall : Step → ℤ
old_wall s = s.since +ℤ s.before

-- and by its own
abbrev pub new_wall : Step → ℤ
new_wall s = s.since +ℤ s.after

-- an entry of the table and the next
abbrev pub TableNeighbours : (Step → Step → Type 0) → PlainZone → Type 0
TableNeighbours P z =
    (n : ℕ) (a b : Transition) → slice_get z.table n ≡ Some a → slice_get z.table (n + 1) ≡ Some b
    → P (step (before_entry z n) a) (step (offset_of a) b)

-- the two transitions of a year of the rule
abbrev pub YearNeighbours : (Step → Step → Type 0) → PlainZone → Type 0
YearNeighbours P z =
    IfSome z.rule (λ r. (y : ℤ) → r.first_year ≤ℤ y → y <ℤ end_year
    → P (step (offset_of (second_entry r y)) (first_entry r y)) (step (offset_of (first_entry r y)) (second_entry r y)))

-- both walls of the first are not after the second's second, and the first's second is not after both walls of the second
pub record IsNear (a b : Step) : Type 0 where
  pub old : old_wall a ≤ℤ b.since
  pub new : new_wall a ≤ℤ b.since
  pub to_old : a.since ≤ℤ old_wall b
  pub to_new : a.since ≤ℤ new_wall b

-- 4, near: the neighbours in the table, and the two transitions of each year of the rule, are near
pub record KeepsNear (z : PlainZone) : Type 0 where
  pub table : TableNeighbours IsNear z
  pub years : YearNeighbours IsNear z

-- both walls of the first are not after both walls of the second
pub record IsWalled (a b : Step) : Type 0 where
  pub old_old : old_wall a ≤ℤ old_wall b
  pub old_new : old_wall a ≤ℤ new_wall b
  pub new_old : new_wall a ≤ℤ old_wall b
  pub new_new : new_wall a ≤ℤ new_wall b

-- 5, walls: the walls of the same neighbours follow one another
pub record KeepsWalls (z : PlainZone) : Type 0 where
  pub table : TableNeighbours IsWalled z
  pub years : YearNeighbours IsWalled z
