-- A zone of a bundle as a zone of `zoned`: the offset at a second, and where it is sound
-- (docs/ZONES.md, "Zones of `zoned`").
use Rattle.std.specs.Prelude.{Option, Some, None, IfSome, ℤ, pos}
use Rattle.zoned.specs.declared.offset.MappedLocalTime.{MappedLocalTime}
use Rattle.timeline.specs.Zone.{PlainZone}
use Rattle.timeline.specs.ShownWalls.{seconds_at}
use Rattle.timeline.specs.Laws.{IsLawful}
use Rattle.zoneinfo64.specs.ShownOffsets.{shown_offsets}
use Rattle.zoneinfo64.specs.declared.zone.Zone.{Zone}
use Rattle.zoneinfo64.specs.ZoneView.{plain_zone}

-- the offset of a zone at a second, 0 without a zone
abbrev pub off_in : Option PlainZone → ℤ → ℤ
off_in None t = pos 0
off_in (Some z) t = seconds_at z t

-- the offset of a `Zone` at a second: that of its plain zone, which it always has
abbrev pub zone_off : Zone → ℤ → ℤ
zone_off zone t = off_in (plain_zone zone) t

-- the offsets of a wall second
abbrev pub zone_local : Zone → ℤ → MappedLocalTime ℤ
zone_local zone w = shown_offsets (zone_off zone) w

-- a `Zone` is sound exactly where its plain zone, which it always has, is lawful
abbrev pub IsSound : Zone → Type 0
IsSound zone = IfSome (plain_zone zone) IsLawful
