-- The region of a zone (docs/FORMATS.md, "Zone fields").
use Rattle.std.specs.Char.{is_ascii_digit, is_ascii_uppercase}
use Rattle.std.specs.Char.Utf16.{utf16_lossy_chars}
use Rattle.std.specs.Prelude.{ℕ, ◌==◌, nat_lt, Bool, ◌&&◌, ◌||◌, if◌then◌else◌, List, [], ◌∷◌, slice_index_or, Option}
use Rattle.resb_tree.specs.Options.{when}

-- a character of a region as a byte; one that is not ASCII counts as 0
abbrev pub region_byte : ℕ → ℕ
region_byte c = if nat_lt c 128 then c else 0

-- the nth character as a byte; one that is missing counts as 0
abbrev pub region_byte_at : List ℕ → ℕ → ℕ
region_byte_at chars n = region_byte (slice_index_or chars n 0)

-- two capitals and a zero byte, or three digits
abbrev pub region_code : ℕ → ℕ → ℕ → Option (List ℕ)
region_code a b c =
    when ((is_ascii_uppercase a && is_ascii_uppercase b && (c == 0))
    || (is_ascii_digit a && is_ascii_digit b && is_ascii_digit c)) (a ∷ b ∷ c ∷ [])

-- the code of a region's first three characters
abbrev pub region_of_chars : List ℕ → Option (List ℕ)
region_of_chars chars = region_code (region_byte_at chars 0) (region_byte_at chars 1) (region_byte_at chars 2)

-- the region that units write
abbrev pub region_of : List ℕ → Option (List ℕ)
region_of units = region_of_chars (utf16_lossy_chars units)
