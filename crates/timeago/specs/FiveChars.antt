-- A distance in five characters (docs/WORDS.md, "Five characters, and styles").
use Rattle.std.specs.Prelude.{◌≡◌, ℕ, ◌+◌, ◌/◌, ◌%◌, ◌<◌, nat_lt, nat_le, ◌==◌, if◌then◌else◌, List, [], ◌∷◌, ◌++◌, length, All, codes}

-- a number below 100 in two decimal digits
abbrev pub two_digits : ℕ → List ℕ
two_digits n = (48 + n / 10) ∷ (48 + n % 10) ∷ []

-- the text of so many whole seconds
abbrev pub five_chars : ℕ → List ℕ
five_chars s =
    if s == 0 then codes " now " else (
    if nat_lt s 60 then two_digits s ++ codes "sec" else (
    if nat_lt s 3600 then two_digits (s / 60) ++ codes "min" else (
    if nat_lt s 86400 then two_digits (s / 3600) ++ codes "hou" else (
    if nat_lt s 2628003 then two_digits (s / 86400) ++ codes "day" else (
    if nat_lt s 31536036 then two_digits (s / 2628003) ++ codes "Mon" else (
    if nat_le s 3122067564 then two_digits (s / 31536036) ++ codes "Yea" else codes " OLD "))))))

-- five characters, each of ASCII and so of one byte
pub record IsFiveChars (text : List ℕ) : Type 0 where
  pub five : length text ≡ 5
  pub ascii : All (λ c. c < 128) text
