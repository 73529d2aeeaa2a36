-- Numbers, bytes and texts of a bundle (ICU resource bundle, format 2; docs/FORMATS.md, "Items").
use Rattle.std.specs.Prelude.{ℕ, zero, suc, ◌+◌, ◌-◌, ◌*◌, ◌%◌, ◌||◌, List, [], ◌∷◌, slice_index, Option, Some, None, if◌then◌else◌, ◌==◌, nat_le, nat_lt}
use Rattle.resb_tree.specs.Words.{byte_in, unit_in, run}
use Rattle.resb_tree.specs.declared.resource.Resource.{Resource}
use Rattle.resb_tree.specs.declared.resource.Resource.TheVariants as r
use Rattle.resb_tree.specs.Options.{◌>>=◌}
use Rattle.resb_tree.specs.Bodies.{Body, area_len, area_unit, counted}

-- so many words behind their count; none where the place is 0
unfoldable pub integers_at : Body → ℕ → Option Resource
integers_at b v =
    if v == 0 then Some (r.Integers [])
    else (counted b v 1 >>= λ count. Some (r.Integers (run (slice_index b.words) (v + 1) count)))

-- so many bytes behind their count, four to a word; none where the place is 0
unfoldable pub bytes_at : Body → ℕ → Option Resource
bytes_at b v =
    if v == 0 then Some (r.Bytes [])
    else (counted b v 4 >>= λ count. Some (r.Bytes (run (byte_in b.words) (4 * (v + 1)) count)))

-- so many units behind their count, two to a word; none where the place is 0
unfoldable pub text_at : Body → ℕ → Option Resource
text_at b v =
    if v == 0 then Some (r.Text [])
    else (counted b v 2 >>= λ count. Some (r.Text (run (unit_in b.words) (2 * (v + 1)) count)))

-- so many units of the area, where they lie inside it
abbrev pub area_text : Body → ℕ → ℕ → Option Resource
area_text b from count =
    if nat_le (from + count) (area_len b) then Some (r.Text (run (area_unit b) from count)) else None

-- the units from a place up to a zero unit, within so many
unfoldable pub units_to_zero : (ℕ → ℕ) → ℕ → ℕ → Option (List ℕ)
units_to_zero unit place zero = None
units_to_zero unit place (suc more) =
    if unit place == 0 then Some [] else (units_to_zero unit (place + 1) more >>= λ us. Some (unit place ∷ us))

-- a text of the area: its first unit may tell its length, in one of three forms; else a zero unit ends it
unfoldable pub short_text_at : Body → ℕ → Option Resource
short_text_at b v =
    if nat_lt v (area_len b) then (
    let f = area_unit b v in
    if nat_lt f 0xDC00 || nat_lt 0xDFFF f then (units_to_zero (area_unit b) v (area_len b - v) >>= λ us. Some (r.Text us))
    else (if nat_lt f 0xDFEF then area_text b (v + 1) (f % 1024)
    else (if nat_lt f 0xDFFF then (if nat_lt (v + 1) (area_len b) then area_text b (v + 2) ((f - 0xDFEF) * 65536 + area_unit b (v + 1)) else None)
    else (if nat_lt (v + 2) (area_len b) then area_text b (v + 3) (area_unit b (v + 1) * 65536 + area_unit b (v + 2)) else None)))
    ) else None
