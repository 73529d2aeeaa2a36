-- When two entries of a zone list have the same name and region (docs/ZONES.md, "Equal zones").
use Rattle.std.specs.Prelude.{nat_eq, Bool, ◌&&◌}
use Rattle.std.specs.Cmp.Lexicographic.{pointwise}
use Rattle.zoneinfo64.specs.NamedZone.{NamedZone}

-- the same name and the same region
abbrev pub same_names : NamedZone → NamedZone → Bool
same_names a b = pointwise nat_eq a.name b.name && pointwise nat_eq a.region b.region
