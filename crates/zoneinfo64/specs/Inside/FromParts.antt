-- A zone from its fields.
use Rattle.std.specs.Prelude.{ℕ, List, ◌++◌, length, map, Option, Some, ℤ}
use Rattle.resb_tree.specs.Options.{◌>>=◌}
use Rattle.resb_tree.specs.Contents.{integers_in, bytes_in}
use Rattle.resb_tree.specs.declared.resource.Resource.{Resource}
use Rattle.timeline.specs.Zone.{RawRule, PlainZone}
use Rattle.zoneinfo64.specs.RuleDates.{as_i32}
use Rattle.zoneinfo64.specs.RuleFields.{rule_fields}
use Rattle.zoneinfo64.specs.ZoneLists.{offset_pairs, initial_of, list_or_empty, wide_seconds}
use Rattle.zoneinfo64.specs.ZoneFields.{table_of, zone_with}
use Rattle.zoneinfo64.specs.declared.parts.ZoneParts.{ZoneParts}

-- the pairs of offsets of a field, which has to be there
unfoldable pub offsets_in : Option Resource → Option (List (ℤ × ℤ))
offsets_in part = do
  types ← part
  words ← integers_in types
  offset_pairs words

-- the words of a field, none without the field
unfoldable pub words_in : Option Resource → Option (List ℕ)
words_in part = list_or_empty integers_in part

-- the bytes of a field, none without the field
unfoldable pub numbers_in : Option Resource → Option (List ℕ)
numbers_in part = list_or_empty bytes_in part

-- the seconds of a field of two words each, none without the field
unfoldable pub wide_in : Option Resource → Option (List ℤ)
wide_in part = do
  words ← words_in part
  wide_seconds words

-- the zone that fields hold
unfoldable pub zone_in : (List ℕ → Option RawRule) → ZoneParts → Option PlainZone
zone_in find parts = do
  pairs ← offsets_in parts.type_offsets
  initial ← initial_of pairs
  early ← wide_in parts.trans_pre32
  middle ← words_in parts.trans
  late ← wide_in parts.trans_post32
  numbers ← numbers_in parts.type_map
  links ← words_in parts.links
  table ← table_of pairs (early ++ map as_i32 middle ++ late) numbers
  rule ← rule_fields find parts.final_rule parts.final_raw parts.final_year
  Some (zone_with initial table (length early) (length late) rule pairs numbers links)
