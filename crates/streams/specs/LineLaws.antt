-- Where lines end, by the places of LFs (docs/ARCHITECTURE.md, "Lines").
use Rattle.std.specs.Prelude.{◌≡◌, ℕ, ◌+◌, List, [], ◌∷◌, take, drop, Some, None}
use Rattle.memchr.specs.Find.{IsFirstByte, is_byte}
use Rattle.streams.specs.Lines.{ended}

-- the lines that end are cut off one by one
pub record LinesEndAtLfs : Type 0 where
  -- the first LF ends the first line, and the others come behind it
  pub first : (bytes : List ℕ) (i : ℕ) → IsFirstByte (is_byte 10) bytes (Some i) → ended bytes ≡ take i bytes ∷ ended (drop (i + 1) bytes)
  -- without an LF no line ends
  pub none : (bytes : List ℕ) → IsFirstByte (is_byte 10) bytes None → ended bytes ≡ []
