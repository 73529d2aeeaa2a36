-- The zone list that a `ZoneInfo64` keeps.
use Rattle.std.specs.Prelude.{◌≤◌, ◌<◌, List, map, length, IsTrue, Option, Some, None}
use Rattle.std.specs.Borrow.{Bor}
use Rattle.zoneinfo64.specs.declared.zone.Named.{Named}
use Rattle.zoneinfo64.specs.declared.zone.Item.{Item}
use Rattle.zoneinfo64.specs.declared.zone.Item.TheVariants as item
use Rattle.timeline.specs.Zone.{PlainZone}
use Rattle.zoneinfo64.specs.NamedZone.{NamedZone, Place, IsZone, IsAlias}
use Rattle.zoneinfo64.specs.Bundle.{rises, all_resolved}

-- the plain zone of data that was lent, if any was
abbrev pub seen_data : Option (Bor PlainZone) → Option PlainZone
seen_data None = None
seen_data (Some d) = Some d.now

-- what stands at a place
abbrev pub place_of_item : Item → Place
place_of_item (item.Zone d) = IsZone d
place_of_item (item.Alias n) = IsAlias n

-- an entry of the list as the zone, the name and the region of a place
abbrev pub named_of : Named → NamedZone
named_of n = record { name = n.name; region = n.region; place = place_of_item n.item }

-- the zones of the entries
abbrev pub zones_of : List Named → List NamedZone
zones_of entries = map named_of entries

-- entries that make a list: at least one, not too many, with rising names, and each alias is the place of a zone
pub record AreEntries (entries : List Named) : Type 0 where
  pub some : 0 < length entries
  pub few : length entries ≤ 65536
  pub rising : IsTrue (rises (zones_of entries))
  pub resolved : IsTrue (all_resolved (zones_of entries) (zones_of entries))
