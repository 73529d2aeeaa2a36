-- The codes of regions, as bytes are read (docs/FORMATS.md, "Regions").
use Rattle.std.specs.Prelude.{ℕ, List, [], ◌∷◌, Option, None}
use Rattle.zoneinfo64.specs.Regions.{region_code}

-- the code that three bytes are
abbrev pub code_of_bytes : List ℕ → Option (List ℕ)
code_of_bytes (a ∷ b ∷ c ∷ []) = region_code a b c
code_of_bytes other = None
