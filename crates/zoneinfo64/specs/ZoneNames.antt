-- The names of zones, and the place of a name (docs/FORMATS.md, "Zone fields").
use Rattle.std.specs.Prelude.{ℕ, List, [], ◌∷◌, Option, Some, None}
use Rattle.resb_tree.specs.Contents.{text_in, index_in}
use Rattle.resb_tree.specs.Options.{◌>>=◌}
use Rattle.resb_tree.specs.declared.resource.Resource.{Resource}
use Rattle.timeline.specs.Zone.{RawRule}
use Rattle.zoneinfo64.specs.NamedZone.{Place, IsZone, IsAlias, NamedZone}
use Rattle.zoneinfo64.specs.ZoneFields.{plain_zone_of}
use Rattle.zoneinfo64.specs.Regions.{region_of}

-- an alias, where there is a number; else the zone
abbrev pub place_by : Option ℕ → (List ℕ → Option RawRule) → Resource → Option Place
place_by (Some n) find zone = Some (IsAlias n)
place_by None find zone = plain_zone_of find zone >>= λ plain. Some (IsZone plain)

-- what stands in the array of zones: an alias or a zone
unfoldable pub place_of : (List ℕ → Option RawRule) → Resource → Option Place
place_of find zone = place_by (index_in zone) find zone

-- the zone, the name and the region of one place of the three arrays
unfoldable pub named_zone : (List ℕ → Option RawRule) → Resource → Resource → Resource → Option NamedZone
named_zone find zone name region = do
  units ← text_in name
  region_units ← text_in region
  code ← region_of region_units
  place ← place_of find zone
  Some (record { name = units; region = code; place = place })

-- those of each place
abbrev pub named_zones : (List ℕ → Option RawRule) → List Resource → List Resource → List Resource → Option (List NamedZone)
named_zones find [] [] [] = Some []
named_zones find (zone ∷ zones) (name ∷ names) (region ∷ regions) = do
  first ← named_zone find zone name region
  others ← named_zones find zones names regions
  Some (first ∷ others)
named_zones find zones names regions = None
