-- The entry and the plain zone behind a `Zone` (docs/FORMATS.md, "Zones").
use Rattle.std.specs.Prelude.{ℕ, List, Option, slice_get}
use Rattle.timeline.specs.Zone.{PlainZone}
use Rattle.zoneinfo64.specs.NamedZone.{NamedZone, resolved_in}
use Rattle.zoneinfo64.specs.declared.zone.Zone.{Zone}

-- the zone list that it is one of
abbrev pub list_of : Zone → List NamedZone
list_of z = z.info.now

-- its own place there, which for an alias is the alias's
abbrev pub place_in : Zone → ℕ
place_in z = z.place

-- the entry at its own place
abbrev pub entry_of : Zone → Option NamedZone
entry_of z = slice_get z.info.now z.place

-- the zone there, an alias replaced by the zone at its place
abbrev pub plain_zone : Zone → Option PlainZone
plain_zone z = resolved_in z.info.now (entry_of z)
