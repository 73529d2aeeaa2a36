-- The counts and their text one after the other, as they are worked out (docs/WORDS.md, "Counts").
use Rattle.std.specs.Prelude.{◌==◌, ◌||◌, ℕ, zero, suc, ◌+◌, ◌-◌, ◌*◌, ◌/◌, min, nat_lt, if◌then◌else◌, Bool, List, [], ◌∷◌, ◌++◌}
use Rattle.tongues.specs.Units.{unit_size}
use Rattle.tongues.specs.Speech.{Speech}
use Rattle.timeago.specs.Settings.{Settings}
use Rattle.timeago.specs.Counts.{allowed_unit, u64_max}
use Rattle.timeago.specs.Words.{chunk}
use Rattle.tongues.specs.declared.unit.TimeUnit.{TimeUnit}

-- the count of a unit that is told of a rest
abbrev pub count_in : TimeUnit → ℕ → ℕ
count_in unit rest = min (rest / unit_size unit) u64_max

-- the unit and the count that are told of a rest
abbrev pub next_told : Settings → ℕ → TimeUnit × ℕ
next_told f rest = (allowed_unit f rest, count_in (allowed_unit f rest) rest)

-- the counts that are told of a rest, where so many may still be told
unfoldable pub counted : Settings → ℕ → ℕ → List (TimeUnit × ℕ)
counted f zero rest = []
counted f (suc items) rest =
    if nat_lt rest (unit_size f.min_unit) then []
    else next_told f rest ∷ counted f items (rest - (next_told f rest).1 * unit_size (next_told f rest).0)

-- whether nothing is told of a rest
abbrev pub tells_nothing : Settings → ℕ → Bool
tells_nothing f rest = f.items == 0 || nat_lt rest (unit_size f.min_unit)

-- what stands before the chunk with this number
abbrev pub before_chunk : Speech → ℕ → List ℕ
before_chunk s turn = if turn == 0 then [] else s.between_chunks

-- the chunks from this number on
abbrev pub chunks : Speech → ℕ → List (TimeUnit × ℕ) → List ℕ
chunks s turn [] = []
chunks s turn (told ∷ others) = before_chunk s turn ++ chunk s told ++ chunks s (turn + 1) others

-- what stands before a text and behind it, for the word for the past
abbrev pub past_before : Speech → List ℕ → List ℕ
past_before s [] = []
past_before s (b ∷ word) = if s.past_first then (b ∷ word) ++ s.near_past else []

-- what stands behind a text for the word for the past; an empty word adds nothing
abbrev pub past_behind : Speech → List ℕ → List ℕ
past_behind s [] = []
past_behind s (b ∷ word) = if s.past_first then [] else s.near_past ++ b ∷ word
