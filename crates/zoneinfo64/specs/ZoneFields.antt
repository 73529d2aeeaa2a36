-- A zone from the fields of its table (docs/FORMATS.md, "Zone fields").
use Rattle.std.specs.Prelude.{ℕ, List, [], ◌∷◌, ◌++◌, length, map, slice_get, Option, Some, None, ℤ, codes}
use Rattle.resb_tree.specs.Fields.{field_in}
use Rattle.resb_tree.specs.Options.{◌>>=◌}
use Rattle.resb_tree.specs.declared.resource.Resource.{Resource}
use Rattle.timeline.specs.Table.{transition_to}
use Rattle.timeline.specs.Zone.{RawRule, PlainRule, PlainZone}
use Rattle.timeline.specs.declared.offset.Offset.{Offset}
use Rattle.timeline.specs.declared.offset.Transition.{Transition}
use Rattle.zoneinfo64.specs.RuleDates.{as_i32}
use Rattle.zoneinfo64.specs.RuleFields.{rule_fields}
use Rattle.zoneinfo64.specs.ZoneLists.{type_offsets, initial_of, integers_at, bytes_at, wide_at}

-- the transitions at these seconds to the pairs of these numbers: as many seconds as numbers, and each a pair's
abbrev pub table_of : List (ℤ × ℤ) → List ℤ → List ℕ → Option (List Transition)
table_of pairs [] [] = Some []
table_of pairs (second ∷ seconds) (n ∷ numbers) = do
  pair ← slice_get pairs n
  others ← table_of pairs seconds numbers
  Some (transition_to pair second ∷ others)
table_of pairs seconds numbers = None

-- the rule of a zone by its three fields
unfoldable pub zone_rule : (List ℕ → Option RawRule) → Resource → Option (Option PlainRule)
zone_rule find zone =
    rule_fields find (field_in (codes "finalRule") zone) (field_in (codes "finalRaw") zone) (field_in (codes "finalYear") zone)

-- a zone with this table
abbrev pub zone_with : Offset → List Transition → ℕ → ℕ → Option PlainRule → List (ℤ × ℤ) → List ℕ → List ℕ → PlainZone
zone_with initial table early late rule pairs numbers links = record {
  initial = initial;
  table = table;
  early = early;
  late = late;
  rule = rule;
  type_offsets = pairs;
  type_map = numbers;
  links = links;
}

-- the zone that a table holds
unfoldable pub plain_zone_of : (List ℕ → Option RawRule) → Resource → Option PlainZone
plain_zone_of find zone = do
  pairs ← type_offsets zone
  initial ← initial_of pairs
  early ← wide_at (codes "transPre32") zone
  middle ← integers_at (codes "trans") zone
  late ← wide_at (codes "transPost32") zone
  numbers ← bytes_at (codes "typeMap") zone
  links ← integers_at (codes "links") zone
  table ← table_of pairs (early ++ map as_i32 middle ++ late) numbers
  rule ← zone_rule find zone
  Some (zone_with initial table (length early) (length late) rule pairs numbers links)
