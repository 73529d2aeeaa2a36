-- The plain zone of a `ZoneData`, and what is true of it.
use Rattle.timeline.specs.Zone.{PlainZone}
use Rattle.timeline.specs.Table.{AreEntries, zone_from}
use Rattle.timeline.specs.declared.data.ZoneData.TheInside.{Inside}

-- the zone that the data of a zone tell
abbrev pub data_view : Inside → PlainZone
data_view a = zone_from a.seconds a.rule a.type_offsets.items a.type_map a.links

-- each second of its table has a pair of offsets
abbrev pub HasEntries : Inside → Type 0
HasEntries a = AreEntries a.type_offsets.items a.seconds.list a.type_map
