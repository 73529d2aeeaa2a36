-- The walls of an entry as they are added up, and the laws by them (docs/ZONES.md, "The checker"). Serves private contracts alone.
use Rattle.std.specs.Prelude.{ℤ, ◌+ℤ◌, ◌<ℤ◌, ◌≤ℤ◌}
use Rattle.std.specs.Int.{int_min, int_max}
use Rattle.timeline.specs.declared.check.Walls.{Walls}
use Rattle.timeline.specs.Neighbours.{Step}

-- a step's second, and the earlier and the later of its walls
abbrev pub walls : Step → Walls
walls s = record { since = s.since; earliest = s.since +ℤ int_min s.before s.after; latest = s.since +ℤ int_max s.before s.after }

-- the laws of neighbours, and of a step against a second, by the earlier and the later wall
pub record AreNear (a b : Walls) : Type 0 where
  pub to_second : a.latest ≤ℤ b.since
  pub from_second : a.since ≤ℤ b.earliest

-- the walls of the second begin where those of the first end, or later
abbrev pub AreWalled : Walls → Walls → Type 0
AreWalled a b = a.latest ≤ℤ b.earliest

-- a transition lies before a second, and its later wall does not pass that
pub record EndBefore (limit : ℤ) (w : Walls) : Type 0 where
  pub since : w.since <ℤ limit
  pub latest : w.latest ≤ℤ limit

-- neither a transition nor its earlier wall lies before a second
pub record BeginFrom (low : ℤ) (w : Walls) : Type 0 where
  pub since : low ≤ℤ w.since
  pub earliest : low ≤ℤ w.earliest

-- both lie between two seconds
abbrev pub LieIn : ℤ → ℤ → Walls → Type 0
LieIn low high w = BeginFrom low w × EndBefore high w
