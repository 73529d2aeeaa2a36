-- Lines of bytes (docs/ARCHITECTURE.md, "Lines").
use Rattle.std.specs.Prelude.{ℕ, ◌==◌, if◌then◌else◌, List, [], ◌∷◌, ◌++◌}

-- the last line, which has no LF and counts where it has a byte
abbrev pub last_line : List ℕ → List (List ℕ)
last_line [] = []
last_line (b ∷ line) = (b ∷ line) ∷ []

-- the lines of what is to come, where these bytes of the current line were read
abbrev pub lines_after : List ℕ → List ℕ → List (List ℕ)
lines_after line [] = last_line line
lines_after line (b ∷ bytes) = if b == 10 then line ∷ lines_after [] bytes else lines_after (line ++ b ∷ []) bytes

-- a line ends at each LF; a last line without one counts where it has a byte
abbrev pub lines : List ℕ → List (List ℕ)
lines bytes = lines_after [] bytes

-- those of the lines to come that an LF ends
abbrev pub ended_after : List ℕ → List ℕ → List (List ℕ)
ended_after line [] = []
ended_after line (b ∷ bytes) = if b == 10 then line ∷ ended_after [] bytes else ended_after (line ++ b ∷ []) bytes

-- the lines that an LF ends
abbrev pub ended : List ℕ → List (List ℕ)
ended bytes = ended_after [] bytes
