-- The words of a bundle behind its header, and what is counted in them (ICU resource bundle, format 2; docs/FORMATS.md,
-- "Items").
use Rattle.std.specs.Prelude.{ℕ, ◌+◌, ◌-◌, ◌*◌, ◌/◌, ◌&&◌, List, slice_index, Option, Some, None, if◌then◌else◌, nat_le, nat_lt}
use Rattle.resb_tree.specs.Words.{unit_in}

-- the words behind the header; the keys end at keys_end, the 16-bit area goes on to area_end, and all data end at end
pub record Body : Type 0 where
  pub words : List ℕ
  pub keys_end : ℕ
  pub area_end : ℕ
  pub end : ℕ

-- a body of these words and ends
abbrev pub body : List ℕ → ℕ → ℕ → ℕ → Body
body words keys_end area_end end = record { words = words; keys_end = keys_end; area_end = area_end; end = end }

-- how many units it has
abbrev pub area_len : Body → ℕ
area_len b = 2 * b.area_end - 2 * b.keys_end

-- the unit of a number there
abbrev pub area_unit : Body → ℕ → ℕ
area_unit b k = unit_in b.words (2 * b.keys_end + k)

-- a unit there stands for the text that begins at the unit of that number
abbrev pub text_item : Body → ℕ → ℕ
text_item b k = 1610612736 + area_unit b k

-- the count at a word, where so many values, of which per fit a word, lie below the end
abbrev pub counted : Body → ℕ → ℕ → Option ℕ
counted b v per =
    let count = slice_index b.words v in
    if nat_lt v b.end && nat_le (v + 1 + (count + per - 1) / per) b.end then Some count else None

-- the count at a unit of the area, where so many times per units lie behind it in the area
abbrev pub area_counted : Body → ℕ → ℕ → Option ℕ
area_counted b v per =
    let count = area_unit b v in
    if nat_lt v (area_len b) && nat_le (v + 1 + per * count) (area_len b) then Some count else None
