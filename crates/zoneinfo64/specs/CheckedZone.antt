-- A zone of a bundle with the checker's verdict on it (docs/ZONES.md, "The checker").
use Rattle.std.specs.Prelude.{◌≡◌, ℕ, Option, Some, None, Result, Ok, Err, List}
use Rattle.timeline.specs.Zone.{PlainZone}
use Rattle.zoneinfo64.specs.NamedZone.{NamedZone, named}
use Rattle.timeline.specs.Laws.{IsLawful}
use Rattle.timeline.specs.Fault.{IsLeastBroken}
use Rattle.zoneinfo64.specs.ZoneView.{plain_zone}
use Rattle.timeline.specs.declared.fault.ZoneFault.{ZoneFault}
use Rattle.zoneinfo64.specs.declared.zone.Zone.{Zone}

-- no zone of the list has the name; or it has, and the zone is lawful, or this is the least law that it breaks
abbrev pub IsChecked : List NamedZone → List ℕ → Option (Result Zone ZoneFault) → Type 0
IsChecked zones name None = named zones name ≡ None
IsChecked zones name (Some (Err fault)) = (z : PlainZone) × (named zones name ≡ Some z) × IsLeastBroken z fault
IsChecked zones name (Some (Ok zone)) = (z : PlainZone) × (named zones name ≡ Some z) × (plain_zone zone ≡ Some z) × IsLawful z
