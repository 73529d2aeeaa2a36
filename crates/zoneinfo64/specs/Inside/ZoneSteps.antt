-- What the reader of a bundle says of its zones, which rise by their names.
use Rattle.std.specs.Cmp.Lexicographic.{slice_cmp}
use Rattle.std.specs.Ordering.{nat_cmp, is_lt}
use Rattle.std.specs.Prelude.{ℕ, Bool, List, Option, Some, None}
use Rattle.resb_tree.specs.Options.{◌>>=◌}
use Rattle.resb_tree.specs.declared.resource.Resource.{Resource}
use Rattle.timeline.specs.Zone.{RawRule}
use Rattle.zoneinfo64.specs.NamedZone.{NamedZone, name_text}
use Rattle.zoneinfo64.specs.ZoneNames.{place_by}

-- the name of the first comes before that of the second
abbrev pub is_before : NamedZone → NamedZone → Bool
is_before a b = is_lt (slice_cmp nat_cmp (name_text a.name) (name_text b.name))

-- what stands in the array of zones, which is no alias, with its name and region
abbrev pub own_zone : (List ℕ → Option RawRule) → Resource → List ℕ → List ℕ → Option NamedZone
own_zone find zone units code = place_by None find zone >>= λ place. Some (record { name = units; region = code; place = place })
