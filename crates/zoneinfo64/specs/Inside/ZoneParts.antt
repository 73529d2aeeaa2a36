-- The fields of a zone as one pass over its entries finds them.
use Rattle.std.specs.Prelude.{ℕ, List, Option, Some, None, codes}
use Rattle.resb_tree.specs.Fields.{field_in, first_with}
use Rattle.resb_tree.specs.declared.resource.Resource.{Resource}
use Rattle.zoneinfo64.specs.declared.parts.Field.{Field}
use Rattle.zoneinfo64.specs.declared.parts.Field.TheVariants as field
use Rattle.zoneinfo64.specs.declared.parts.ZoneParts.{ZoneParts}

-- what was found first
abbrev pub first_or : Option Resource → Option Resource → Option Resource
first_or None later = later
first_or (Some first) later = Some first

-- a value put at its field, where none was found before
abbrev pub with_field : Field → Resource → ZoneParts → ZoneParts
with_field field.FinalRaw value parts = record parts { final_raw = first_or parts.final_raw (Some value) }
with_field field.FinalRule value parts = record parts { final_rule = first_or parts.final_rule (Some value) }
with_field field.FinalYear value parts = record parts { final_year = first_or parts.final_year (Some value) }
with_field field.Links value parts = record parts { links = first_or parts.links (Some value) }
with_field field.Trans value parts = record parts { trans = first_or parts.trans (Some value) }
with_field field.TransPost32 value parts = record parts { trans_post32 = first_or parts.trans_post32 (Some value) }
with_field field.TransPre32 value parts = record parts { trans_pre32 = first_or parts.trans_pre32 (Some value) }
with_field field.TypeMap value parts = record parts { type_map = first_or parts.type_map (Some value) }
with_field field.TypeOffsets value parts = record parts { type_offsets = first_or parts.type_offsets (Some value) }

-- the fields by what is found for a key
abbrev pub parts_by : (List ℕ → Option Resource) → ZoneParts
parts_by find = record {
  final_raw = find (codes "finalRaw");
  final_rule = find (codes "finalRule");
  final_year = find (codes "finalYear");
  links = find (codes "links");
  trans = find (codes "trans");
  trans_post32 = find (codes "transPost32");
  trans_pre32 = find (codes "transPre32");
  type_map = find (codes "typeMap");
  type_offsets = find (codes "typeOffsets");
}

-- the fields of entries
abbrev pub parts_in : List (List ℕ × Resource) → ZoneParts
parts_in entries = parts_by (λ key. first_with key entries)

-- the fields of a zone
abbrev pub parts_of : Resource → ZoneParts
parts_of zone = parts_by (λ key. field_in key zone)
