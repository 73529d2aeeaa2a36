-- What a `ChronoOffset` tells: an offset with its flag, and the zone whose it is (docs/ZONES.md, "Zones of `zoned`").
use Rattle.std.specs.Prelude.{ℤ, pos, negsuc}
use Rattle.std.specs.Int.{int_max, int_min}
use Rattle.timeline.specs.declared.offset.Offset.{Offset}
use Rattle.zoneinfo64.specs.declared.zone.Zone.{Zone}
use Rattle.zoneinfo64.specs.declared.chrono.ChronoOffset.{ChronoOffset}

-- the offset of an offset with its zone
abbrev pub offset_told : ChronoOffset → Offset
offset_told o = o.offset

-- and its zone
abbrev pub zone_told : ChronoOffset → Zone
zone_told o = o.zone

-- cut to less than a day: from -86,399 to 86,399 seconds
abbrev pub cut_to_day : ℤ → ℤ
cut_to_day seconds = int_max (negsuc 86398) (int_min seconds (pos 86399))

-- its seconds, cut to less than a day
abbrev pub seconds_told : ChronoOffset → ℤ
seconds_told o = cut_to_day (offset_told o).offset
