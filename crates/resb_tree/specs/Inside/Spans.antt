-- Where keys and the texts of the 16-bit area stand (docs/FORMATS.md, "Keys", "Texts of the area").
use Rattle.std.specs.Prelude.{ℕ, zero, suc, ◌-◌, ◌+◌, ◌%◌, ◌||◌, ◌*◌, if◌then◌else◌, ◌==◌, Option, Some, None, nat_le, nat_lt}
use Rattle.resb_tree.specs.Options.{◌>>=◌}
use Rattle.resb_tree.specs.Bodies.{Body, area_len, area_unit}

-- the place of the first zero unit from a place on, within so many
unfoldable pub zero_from : (ℕ → ℕ) → ℕ → ℕ → Option ℕ
zero_from unit place zero = None
zero_from unit place (suc more) = if unit place == 0 then Some place else zero_from unit (place + 1) more

-- a place and a count of units, where these lie inside the area
abbrev pub span_inside : Body → ℕ → ℕ → Option (ℕ × ℕ)
span_inside b from count = if nat_le (from + count) (area_len b) then Some (from, count) else None

-- the same, where the first unit f tells the length
abbrev pub told_span : Body → ℕ → ℕ → Option (ℕ × ℕ)
told_span b v f =
    if nat_lt f 0xDFEF then span_inside b (v + 1) (f % 1024)
    else (if nat_lt f 0xDFFF then (if nat_lt (v + 1) (area_len b) then span_inside b (v + 2) ((f - 0xDFEF) * 65536 + area_unit b (v + 1)) else None)
    else (if nat_lt (v + 2) (area_len b) then span_inside b (v + 3) (area_unit b (v + 1) * 65536 + area_unit b (v + 2)) else None))

-- where the units of a text of the area begin, and how many they are
unfoldable pub short_span : Body → ℕ → Option (ℕ × ℕ)
short_span b v =
    if nat_lt v (area_len b) then (
    let f = area_unit b v in
    if nat_lt f 0xDC00 || nat_lt 0xDFFF f then (zero_from (area_unit b) v (area_len b - v) >>= λ stop. Some (v, stop - v)) else told_span b v f
    ) else None

-- the place of the zero byte that ends a key, within so many bytes
unfoldable pub key_stop : (ℕ → ℕ) → ℕ → ℕ → Option ℕ
key_stop byte place zero = None
key_stop byte place (suc more) =
    if byte place == 0 then Some place else (if nat_lt (byte place) 128 then key_stop byte (place + 1) more else None)
