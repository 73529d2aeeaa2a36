-- How much of a distance its counts tell (docs/WORDS.md, "Counts").
use Rattle.std.specs.Prelude.{◌≡◌, ℕ, ◌+◌, ◌*◌, ◌<◌, ◌≤◌, ◌⊎◌, ⊤, nat_lt, MatchBool, List, [], ◌∷◌}
use Rattle.tongues.specs.Units.{unit_size}
use Rattle.tongues.specs.Speech.{Speech}
use Rattle.timeago.specs.Settings.{Settings}
use Rattle.timeago.specs.Counts.{Counts, u64_max}
use Rattle.timeago.specs.Words.{told_text}
use Rattle.tongues.specs.declared.unit.TimeUnit.{TimeUnit}

-- the nanoseconds that counts tell together
abbrev pub told_nanos : List (TimeUnit × ℕ) → ℕ
told_nanos [] = 0
told_nanos (told ∷ others) = told.1 * unit_size told.0 + told_nanos others

-- the last of a count and those after it
abbrev pub last_of : TimeUnit × ℕ → List (TimeUnit × ℕ) → TimeUnit × ℕ
last_of told [] = told
last_of told (next ∷ others) = last_of next others

-- where something is told, it is at most the distance, and falls short of it by less than the last unit, unless the last
-- count is the greatest one
abbrev pub StaysWithin : ℕ → List (TimeUnit × ℕ) → Type 0
StaysWithin distance [] = ⊤
StaysWithin distance (told ∷ others) =
    (told_nanos (told ∷ others) ≤ distance)
    × ((distance < told_nanos (told ∷ others) + unit_size (last_of told others).0) ⊎ ((last_of told others).1 ≡ u64_max))

-- a text that is not of a distance too high to tell is that of counts that stay within the distance
abbrev pub TellsWithin : Speech → Settings → ℕ → List ℕ → Type 0
TellsWithin s f distance text = MatchBool (nat_lt f.max_duration distance) ⊤
    ((list : List (TimeUnit × ℕ)) × Counts f f.items distance list × (text ≡ told_text s f list) × StaysWithin distance list)
