-- The words of a distance (docs/WORDS.md, "The text").
use Rattle.std.specs.Prelude.{◌≡◌, ℕ, nat_lt, MatchBool, if◌then◌else◌, List, [], ◌∷◌, ◌++◌, codes, decimal, unwrap_or}
use Rattle.std.specs.Str.{bytes_eq}
use Rattle.tongues.specs.Speech.{Speech}
use Rattle.timeago.specs.Settings.{Settings}
use Rattle.timeago.specs.Counts.{Counts}
use Rattle.tongues.specs.declared.unit.TimeUnit.{TimeUnit}

-- a count with its unit's word
abbrev pub chunk : Speech → TimeUnit × ℕ → List ℕ
chunk s told =
    if s.unit_first told.1 then s.word told.0 told.1 ++ s.between_value_and_word ++ decimal told.1
    else decimal told.1 ++ s.between_value_and_word ++ s.word told.0 told.1

-- the chunks, with the language's space between two of them
abbrev pub joined : Speech → List (TimeUnit × ℕ) → List ℕ
joined s [] = []
joined s (told ∷ []) = chunk s told
joined s (told ∷ next ∷ others) = chunk s told ++ s.between_chunks ++ joined s (next ∷ others)

-- a text with the word for the past beside it; an empty word leaves it alone
abbrev pub with_past : Speech → List ℕ → List ℕ → List ℕ
with_past s [] body = body
with_past s (b ∷ word) body =
    if s.past_first then (b ∷ word) ++ s.near_past ++ body else body ++ s.near_past ++ b ∷ word

-- none of the least unit
abbrev pub none_text : Speech → Settings → List ℕ
none_text s f = with_past s (unwrap_or f.past s.past) (codes "0" ++ s.between_value_and_word ++ s.word f.min_unit 0)

-- the text of these counts; without one it is the word for what is too low, or, where that word is `0`,
-- none of the least unit
abbrev pub told_text : Speech → Settings → List (TimeUnit × ℕ) → List ℕ
told_text s f [] =
    let low = unwrap_or f.low s.low in
    if bytes_eq low (codes "0")
    then none_text s f
    else low
told_text s f (told ∷ others) = with_past s (unwrap_or f.past s.past) (joined s (told ∷ others))

-- the text by which a distance of so many nanoseconds is told
abbrev pub IsWords : Speech → Settings → ℕ → List ℕ → Type 0
IsWords s f distance text = MatchBool (nat_lt f.max_duration distance)
    (text ≡ unwrap_or f.high s.high)
    ((list : List (TimeUnit × ℕ)) × Counts f f.items distance list × (text ≡ told_text s f list))
