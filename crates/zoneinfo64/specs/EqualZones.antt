-- When two zones are equal (docs/ZONES.md, "Equal zones").
use Rattle.std.specs.Prelude.{Bool}
use Rattle.std.specs.Option.{option_eq}
use Rattle.std.specs.Ordering.{on, eq_of_both}
use Rattle.timeline.specs.Equal.{same_zone}
use Rattle.zoneinfo64.specs.EqualNames.{same_names}
use Rattle.zoneinfo64.specs.ZoneView.{entry_of, plain_zone}
use Rattle.zoneinfo64.specs.declared.zone.Zone.{Zone}

-- the names, the regions and the data of two zones are equal; an alias has its own name and region, and the data of the
-- zone that it stands for
abbrev pub same_zones : Zone → Zone → Bool
same_zones = eq_of_both (on entry_of (option_eq same_names)) (on plain_zone (option_eq same_zone))
