-- The laws by their numbers, and the least of those that are broken (docs/ZONES.md, "Laws").
use Rattle.std.specs.Prelude.{◌≡◌, ℕ, ◌<◌}
use Rattle.timeline.specs.declared.fault.ZoneFault.{ZoneFault}
use Rattle.timeline.specs.declared.fault.ZoneFault.TheVariants.{Parts, Order, Size, Near, Walls, Seam, Before, Year}
use Rattle.timeline.specs.Zone.{PlainZone}
use Rattle.timeline.specs.TableLaws.{KeepsParts, KeepsOrder, KeepsSize}
use Rattle.timeline.specs.Neighbours.{KeepsNear, KeepsWalls}
use Rattle.timeline.specs.Laws.{KeepsSeam, KeepsBefore, KeepsYear}

-- the number of the law that is broken
abbrev pub fault_number : ZoneFault → ℕ
fault_number Parts = 1
fault_number Order = 2
fault_number Size = 3
fault_number Near = 4
fault_number Walls = 5
fault_number Seam = 6
fault_number Before = 7
fault_number Year = 8

-- the zone keeps the law
abbrev pub Keeps : PlainZone → ZoneFault → Type 0
Keeps z Parts = KeepsParts z
Keeps z Order = KeepsOrder z
Keeps z Size = KeepsSize z
Keeps z Near = KeepsNear z
Keeps z Walls = KeepsWalls z
Keeps z Seam = KeepsSeam z
Keeps z Before = KeepsBefore z
Keeps z Year = KeepsYear z

-- the zone keeps the law of that number
abbrev pub KeepsLaw : ℕ → PlainZone → Type 0
KeepsLaw k z = (f : ZoneFault) → fault_number f ≡ k → Keeps z f

-- the law is broken, and those before it are kept
pub record IsLeastBroken (z : PlainZone) (f : ZoneFault) : Type 0 where
  pub broken : Keeps z f → ⊥
  pub others : (g : ZoneFault) → fault_number g < fault_number f → Keeps z g
