-- The answer to a line of seconds (docs/ARCHITECTURE.md, "Lines of seconds").
use Rattle.std.specs.Prelude.{◌≡◌, ℕ, ◌*◌, nat_le, ◌&&◌, if◌then◌else◌, List, [], ◌∷◌, ◌++◌, length, codes, Option, Some, None, option_and_then, MatchOption}
use Rattle.tongues.specs.Speech.{Speech}
use Rattle.timeago.specs.Settings.{three_count_settings}
use Rattle.timeago.specs.Words.{IsWords}
use Rattle.tell.specs.Fields.{without_cr, digits_from}

-- a number that a u64 holds
abbrev pub in_64_bits : ℕ → Option ℕ
in_64_bits n = if nat_le n 18446744073709551615 then Some n else None

-- the number of 1 to 20 digits, leading zeros among them
abbrev pub digits_number : List ℕ → Option ℕ
digits_number bytes = if nat_le 1 (length bytes) && nat_le (length bytes) 20 then digits_from 0 bytes else None

-- the seconds of a line: its number, of at most 64 bits; one CR at the line's end is dropped
unfoldable pub seconds_of : List ℕ → Option ℕ
seconds_of line = option_and_then in_64_bits (digits_number (without_cr line))

-- the answer: the words of that many seconds, or that the line is bad
abbrev pub IsAgoAnswer : Speech → List ℕ → List ℕ → Type 0
IsAgoAnswer speech line answer = MatchOption (seconds_of line) (answer ≡ codes "! bad line")
    (λ seconds. IsWords speech three_count_settings (1000000000 * seconds) answer)

-- the reply to a line: its answer and an LF
abbrev pub IsAgoReply : Speech → List ℕ → List ℕ → Type 0
IsAgoReply speech line text = (answer : List ℕ) × IsAgoAnswer speech line answer × (text ≡ answer ++ 10 ∷ [])
