-- The tokens of a phrase, with their places in bytes (docs/GRAMMAR.md, "Tokens").
use Rattle.std.specs.Prelude.{ℕ, zero, suc, ◌-◌, Bool, List, [], ◌∷◌, length, Option, Some, None, take, drop, min, nat_le, ◌==◌, if◌then◌else◌}
use Rattle.interim.specs.TokenKinds.{Kind, Number, Word, Dash, Slash, Colon, Dot, Comma, Plus, Unknown, Token}
use Rattle.std.specs.Char.{is_ascii_digit}
use Rattle.interim.specs.Characters.{is_letter, continues, run_len, skip, decimal_from}

-- the token of one character that is no digit, letter or blank
abbrev pub mark : ℕ → Kind
mark b =
    if b == 45 then Dash else (
    if b == 47 then Slash else (
    if b == 58 then Colon else (
    if b == 46 then Dot else (
    if b == 44 then Comma else (
    if b == 43 then Plus else Unknown)))))

-- a character of one byte
abbrev pub is_ascii : ℕ → Bool
is_ascii b = nat_le b 127

-- how many bytes after b belong to its token: up to three more digits, all more letters, the rest of a character
unfoldable pub more : ℕ → List ℕ → ℕ
more b bs =
    if is_ascii_digit b then min 3 (run_len is_ascii_digit bs)
    else (if is_letter b then run_len is_letter bs
    else (if is_ascii b then 0 else run_len continues bs))

-- a number, a word or a mark, by the first byte
unfoldable pub kind_of : ℕ → List ℕ → Kind
kind_of b text = if is_ascii_digit b then Number (decimal_from 0 text) else (if is_letter b then Word text else mark b)

-- the token at the front of what is left of a text of so many bytes, and what is left behind it
unfoldable pub split_at : ℕ → List ℕ → Option (Token × List ℕ)
split_at total [] = None
split_at total (b ∷ bs) =
    let n = more b bs in
    let rest = drop n bs in
    Some (record { kind = kind_of b (b ∷ take n bs); span = record { start = total - length (b ∷ bs); end = total - length rest } }, rest)

-- a token and those behind it, if there is one
abbrev pub onward : (List ℕ → List Token) → Option (Token × List ℕ) → List Token
onward others None = []
onward others (Some p) = p.0 ∷ others p.1

-- with steps enough, the tokens of what is left of a text of so many bytes
unfoldable pub tokens : ℕ → ℕ → List ℕ → List Token
tokens zero total bs = []
tokens (suc steps) total bs = onward (tokens steps total) (split_at total (skip bs))

-- each token takes a byte, so there are no more tokens than bytes
unfoldable pub tokens_of : ℕ → List ℕ → List Token
tokens_of total bs = tokens (length bs) total bs

-- the tokens of a phrase
abbrev pub phrase_tokens : List ℕ → List Token
phrase_tokens phrase = tokens_of (length phrase) phrase
