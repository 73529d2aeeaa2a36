-- How much of a source was taken, and how much a sink gained (docs/STREAMS.md, "What stands when a run ends early").
use Rattle.std.specs.Prelude.{ℕ, ◌<◌, ◌≤◌, ⊤, List, ◌++◌, ◌≡◌, length, Some, None}
use Rattle.std.specs.declared.option.Option.{Option}
use Rattle.std.specs.Io.KnownBytes.{Consumes, Appends}

-- a call took at most n of the bytes to come
abbrev pub TookAtMost : Option (List ℕ) → Option (List ℕ) → ℕ → Type 0
TookAtMost old new n = (bytes : List ℕ) × Consumes old new bytes × (length bytes ≤ n)

-- more than n bytes were to come, where they are told
abbrev pub TookMore : Option (List ℕ) → ℕ → Type 0
TookMore None n = ⊤
TookMore (Some bytes) n = n < length bytes

-- a sink gained a front part of these bytes
abbrev pub GainsPart : Option (List ℕ) → Option (List ℕ) → List ℕ → Type 0
GainsPart old new whole = (gained : List ℕ) × Appends old new gained × ((rest : List ℕ) × (whole ≡ gained ++ rest))

-- what was added at the end of a list keeps a fact
abbrev pub Adds : (List ℕ → Type 0) → List ℕ → List ℕ → Type 0
Adds P old new = (added : List ℕ) × P added × (new ≡ old ++ added)
