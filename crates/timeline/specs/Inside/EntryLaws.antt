-- What the laws ask of an entry of a table (docs/ZONES.md, "The checker"). Serves private contracts alone.
use Rattle.std.specs.Prelude.{Bool, IsTrue, Option, IfSome, ℤ, pos, negsuc, ◌<ℤ◌}
use Rattle.timeline.specs.declared.fault.ZoneFault.{ZoneFault}
use Rattle.timeline.specs.declared.fault.ZoneFault.TheVariants as fault
use Rattle.timeline.specs.declared.check.Walls.{Walls}
use Rattle.timeline.specs.TableLaws.{IsSmall}
use Rattle.timeline.specs.Inside.EntryWalls.{AreNear, AreWalled, EndBefore}

-- what the place of an entry in the table asks of its second
pub record InPart (early late : Bool) (since : ℤ) : Type 0 where
  pub in_early : IsTrue early → since <ℤ negsuc 2147483647
  pub in_late : IsTrue late → pos 2147483647 <ℤ since

-- what the laws ask of an entry, with the one before it if there is one, and of the second that the table is to end before
abbrev pub EntryKeeps : Bool → Bool → Option Walls → Walls → ℤ → Option ℤ → ZoneFault → Type 0
EntryKeeps early late previous w after limit fault.Parts = InPart early late w.since
EntryKeeps early late previous w after limit fault.Order = IfSome previous (λ p. p.since <ℤ w.since)
EntryKeeps early late previous w after limit fault.Size = IsSmall after
EntryKeeps early late previous w after limit fault.Near = IfSome previous (λ p. AreNear p w)
EntryKeeps early late previous w after limit fault.Walls = IfSome previous (λ p. AreWalled p w)
EntryKeeps early late previous w after limit fault.Seam = IfSome limit (λ l. EndBefore l w)
EntryKeeps early late previous w after limit fault.Before = Unit {0}
EntryKeeps early late previous w after limit fault.Year = Unit {0}
