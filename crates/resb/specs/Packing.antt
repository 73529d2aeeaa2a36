-- How bytes and 16-bit units are packed into words (docs/FORMATS.md, "The writer").
use Rattle.std.specs.Prelude.{ℕ, ◌+◌, ◌*◌, List, [], ◌∷◌}

-- the greatest 16-bit unit: the place of a key and the number of a table's entries are written as units
abbrev pub most_unit : ℕ
most_unit = 65535

-- four bytes to a word
abbrev pub pack_bytes : List ℕ → List ℕ
pack_bytes [] = []
pack_bytes (a ∷ []) = a ∷ []
pack_bytes (a ∷ b ∷ []) = (a + 256 * b) ∷ []
pack_bytes (a ∷ b ∷ c ∷ []) = (a + 256 * b + 65536 * c) ∷ []
pack_bytes (a ∷ b ∷ c ∷ d ∷ bytes) = (a + 256 * b + 65536 * c + 16777216 * d) ∷ pack_bytes bytes

-- two units to a word
abbrev pub pack_units : List ℕ → List ℕ
pack_units [] = []
pack_units (a ∷ []) = a ∷ []
pack_units (a ∷ b ∷ units) = (a + 65536 * b) ∷ pack_units units
