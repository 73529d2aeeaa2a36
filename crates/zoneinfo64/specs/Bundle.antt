-- The zone list that the tree of a bundle gives (docs/FORMATS.md, "Zone fields").
use Rattle.std.specs.Cmp.Lexicographic.{slice_cmp}
use Rattle.std.specs.Ordering.{nat_cmp, is_lt}
use Rattle.std.specs.Prelude.{ℕ, ◌==◌, nat_le, nat_lt, Bool, true, ◌&&◌, if◌then◌else◌, List, [], ◌∷◌, length, Option, None, is_some, codes}
use Rattle.resb_tree.specs.Fields.{field_in}
use Rattle.resb_tree.specs.Contents.{items_in, entries_in}
use Rattle.resb_tree.specs.Header.{tree_of}
use Rattle.resb_tree.specs.Options.{◌>>=◌, when}
use Rattle.resb_tree.specs.declared.resource.Resource.{Resource}
use Rattle.timeline.specs.Zone.{RawRule}
use Rattle.zoneinfo64.specs.NamedZone.{Place, IsZone, IsAlias, NamedZone, name_text, zone_at}
use Rattle.zoneinfo64.specs.RuleFields.{rules_of, rule_named}
use Rattle.zoneinfo64.specs.ZoneNames.{named_zones}

-- the names strictly rise
abbrev pub rises : List NamedZone → Bool
rises [] = true
rises (a ∷ []) = true
rises (a ∷ b ∷ zones) = is_lt (slice_cmp nat_cmp (name_text a.name) (name_text b.name)) && rises (b ∷ zones)

-- an alias is the place of a zone that is no alias
abbrev pub is_resolved : List NamedZone → Place → Bool
is_resolved zones (IsZone z) = true
is_resolved zones (IsAlias n) = is_some (zone_at zones n)

-- each alias is the place of a zone that is no alias
abbrev pub all_resolved : List NamedZone → List NamedZone → Bool
all_resolved zones [] = true
all_resolved zones (e ∷ es) = is_resolved zones e.place && all_resolved zones es

-- the items of a field
unfoldable pub array_in : List ℕ → Resource → Option (List Resource)
array_in key root = do
  field ← field_in key root
  items_in field

-- the entries of a field
unfoldable pub table_in : List ℕ → Resource → Option (List (List ℕ × Resource))
table_in key root = do
  field ← field_in key root
  entries_in field

-- three arrays of one length, which a list of zones may have
abbrev pub are_arrays : List Resource → List Resource → List Resource → Bool
are_arrays zones names regions =
    nat_lt 0 (length zones) && nat_le (length zones) 65536 && (length names == length zones) && (length regions == length zones)

-- the zones of three arrays, where the names rise and each alias is the place of a zone
unfoldable pub checked_zones : (List ℕ → Option RawRule) → List Resource → List Resource → List Resource → Option (List NamedZone)
checked_zones find zones names regions =
    if are_arrays zones names regions then (do
      list ← named_zones find zones names regions
      when (rises list && all_resolved list list) list) else None

-- the zones of a bundle's root
unfoldable pub zone_list : Resource → Option (List NamedZone)
zone_list root = do
  zones ← array_in (codes "Zones") root
  names ← array_in (codes "Names") root
  regions ← array_in (codes "Regions") root
  entries ← table_in (codes "Rules") root
  rules ← rules_of entries
  checked_zones (λ text. rule_named text rules) zones names regions

-- the zone list of the words of a bundle
unfoldable pub zones_of_words : List ℕ → Option (List NamedZone)
zones_of_words words = tree_of words >>= zone_list
