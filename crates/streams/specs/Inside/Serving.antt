-- The state of a run between two pieces of its input.
use Rattle.std.specs.Prelude.{◌≡◌, ℕ, ◌==◌, if◌then◌else◌, List, [], ◌∷◌, ◌++◌, take, Option}
use Rattle.std.specs.Io.KnownBytes.{Appends}
use Rattle.streams.specs.Lines.{lines, ended}
use Rattle.streams.specs.Report.{IsReport, IsReportPart}

-- the bytes of the line that no LF ends yet, where these of the current line were read
abbrev pub begun_after : List ℕ → List ℕ → List ℕ
begun_after line [] = line
begun_after line (b ∷ bytes) = if b == 10 then begun_after [] bytes else begun_after (line ++ b ∷ []) bytes

-- the bytes behind the last LF
abbrev pub begun : List ℕ → List ℕ
begun bytes = begun_after [] bytes

-- all lines that had ended were replied to, and of the line that has begun the first 1,025 bytes are kept
pub record Between (reply : List ℕ → List ℕ → Type 0) (taken kept gained : List ℕ) : Type 0 where
  pub told : IsReport reply (ended taken) gained
  pub kept_first : kept ≡ take 1025 (begun taken)

-- a reply to each line whose first bytes are kept and that ends with these
abbrev pub RepliesToEnd : (List ℕ → List ℕ → Type 0) → List ℕ → List ℕ → List ℕ → Type 0
RepliesToEnd reply kept bytes text = (line : List ℕ) → kept ≡ take 1025 line → reply (line ++ bytes) text

-- a piece leads on from what was kept to what is kept, where these replies are gained
abbrev pub LeadsOn : (List ℕ → List ℕ → Type 0) → List ℕ → List ℕ → List ℕ → List ℕ → Type 0
LeadsOn reply kept kept' piece added =
    (taken gained : List ℕ) → Between reply taken kept gained → Between reply (taken ++ piece) kept' (gained ++ added)

-- these are a front part of the replies to the lines that a piece ends
abbrev pub LeadsPartly : (List ℕ → List ℕ → Type 0) → List ℕ → List ℕ → List ℕ → Type 0
LeadsPartly reply kept piece added =
    (taken gained : List ℕ) → Between reply taken kept gained → IsReportPart reply (ended (taken ++ piece)) (gained ++ added)

-- this is the reply to the last line, or nothing where there is none
abbrev pub LeadsToEnd : (List ℕ → List ℕ → Type 0) → List ℕ → List ℕ → Type 0
LeadsToEnd reply kept added =
    (taken gained : List ℕ) → Between reply taken kept gained → IsReport reply (lines taken) (gained ++ added)

-- this is a front part of it
abbrev pub LeadsPartlyToEnd : (List ℕ → List ℕ → Type 0) → List ℕ → List ℕ → Type 0
LeadsPartlyToEnd reply kept added =
    (taken gained : List ℕ) → Between reply taken kept gained → IsReportPart reply (lines taken) (gained ++ added)

-- a sink gained bytes of which this holds
abbrev pub Gains : (List ℕ → Type 0) → Option (List ℕ) → Option (List ℕ) → Type 0
Gains P old new = (gained : List ℕ) × P gained × Appends old new gained
