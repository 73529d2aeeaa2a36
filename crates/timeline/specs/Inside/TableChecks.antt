-- What the laws ask of each entry of a table, and what is found of the first ones (docs/ZONES.md, "The checker"). Serves
-- private contracts alone.
use Rattle.std.specs.Prelude.{◌≡◌, ℕ, zero, suc, ◌+◌, ◌<◌, nat_lt, nat_le, List, length, slice_get, Option, Some, None, option_map, ℤ}
use Rattle.timeline.specs.declared.offset.Offset.{Offset}
use Rattle.timeline.specs.declared.offset.Transition.{Transition}
use Rattle.timeline.specs.declared.fault.ZoneFault.{ZoneFault}
use Rattle.timeline.specs.declared.check.Walls.{Walls}
use Rattle.timeline.specs.declared.check.Passed.{Passed}
use Rattle.timeline.specs.Zone.{PlainZone}
use Rattle.timeline.specs.Inside.LeastFaults.{TellsLeast}
use Rattle.timeline.specs.Timeline.{offset_or}
use Rattle.timeline.specs.Neighbours.{step}
use Rattle.timeline.specs.Inside.EntryWalls.{walls}
use Rattle.timeline.specs.Inside.EntryLaws.{EntryKeeps}

-- what holds before the nth entry of a table
abbrev pub table_before : Offset → List Transition → ℕ → Offset
table_before initial table zero = initial
table_before initial table (suc n) = offset_or initial (slice_get table n)

-- the walls of the nth entry
abbrev pub table_walls : Offset → List Transition → ℕ → Transition → Walls
table_walls initial table n e = walls (step (table_before initial table n) e)

-- the walls of the entry before the nth, if there is one
abbrev pub walls_before : Offset → List Transition → ℕ → Option Walls
walls_before initial table zero = None
walls_before initial table (suc n) = option_map (table_walls initial table n) (slice_get table n)

-- the second of the nth entry
abbrev pub IsSecondAt : List Transition → ℕ → ℤ → Type 0
IsSecondAt table n s = option_map (λ (e : Transition). e.since) (slice_get table n) ≡ Some s

-- and of the one before it, if there is one
abbrev pub IsSecondBefore : List Transition → ℕ → ℤ → Type 0
IsSecondBefore table n s = (m : ℕ) → m + 1 ≡ n → IsSecondAt table m s

-- what the laws ask of the nth entry
abbrev pub KeepsAt : Offset → List Transition → ℕ → ℕ → Option ℤ → ZoneFault → ℕ → Type 0
KeepsAt initial table early late limit f n = (e : Transition) → slice_get table n ≡ Some e
    → EntryKeeps (nat_lt n early) (nat_le (length table) (n + late)) (walls_before initial table n) (table_walls initial table n e) e.offset limit f

-- and of the table
abbrev pub TableKeeps : Offset → List Transition → ℕ → ℕ → Option ℤ → ZoneFault → Type 0
TableKeeps initial table early late limit f = (n : ℕ) → KeepsAt initial table early late limit f n

-- what was found of the first n entries
pub record IsPassed (z : PlainZone) (limit : Option ℤ) (n : ℕ) (p : Passed) : Type 0 where
  pub told : TellsLeast (λ f. (m : ℕ) → m < n → KeepsAt z.initial z.table z.early z.late limit f m) p.least
  pub before : IsSecondBefore z.table n p.previous
