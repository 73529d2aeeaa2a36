-- The fields of a zone by their keys.
use Rattle.std.specs.Prelude.{ℕ, List, Option, Some, None, if◌then◌else◌, codes}
use Rattle.std.specs.Str.{bytes_eq}
use Rattle.zoneinfo64.specs.declared.parts.Field.{Field}
use Rattle.zoneinfo64.specs.declared.parts.Field.TheVariants as field

-- the key of a field
abbrev pub key_of : Field → List ℕ
key_of field.FinalRaw = codes "finalRaw"
key_of field.FinalRule = codes "finalRule"
key_of field.FinalYear = codes "finalYear"
key_of field.Links = codes "links"
key_of field.Trans = codes "trans"
key_of field.TransPost32 = codes "transPost32"
key_of field.TransPre32 = codes "transPre32"
key_of field.TypeMap = codes "typeMap"
key_of field.TypeOffsets = codes "typeOffsets"

-- the field with a key
abbrev pub field_named : List ℕ → Option Field
field_named key =
    if bytes_eq key (codes "finalRaw") then Some field.FinalRaw else (
    if bytes_eq key (codes "links") then Some field.Links else (
    if bytes_eq key (codes "trans") then Some field.Trans else (
    if bytes_eq key (codes "transPre32") then Some field.TransPre32 else (
    if bytes_eq key (codes "transPost32") then Some field.TransPost32 else (
    if bytes_eq key (codes "typeMap") then Some field.TypeMap else (
    if bytes_eq key (codes "typeOffsets") then Some field.TypeOffsets else (
    if bytes_eq key (codes "finalRule") then Some field.FinalRule else (
    if bytes_eq key (codes "finalYear") then Some field.FinalYear else None))))))))
