-- Phrases, with the tokens that the definitions cut them into.
use Rattle.std.proofs.Common.{◌≡◌, List, [], ◌∷◌, ◌++◌, ℕ, codes, refl}
use Rattle.interim.specs.TokenKinds.{Token, Kind, Number, Word, Dash, Slash, Colon, Dot, Comma, Plus, Unknown}
use Rattle.interim.specs.Tokens.{more, kind_of, split_at, tokens, tokens_of, phrase_tokens}

abbrev token : Kind → ℕ → ℕ → Token
token kind start end = record { kind = kind; span = record { start = start; end = end } }

-- digits and letters that stand together are two tokens
day_and_hour : phrase_tokens (codes "friday 8pm") ≡ token (Word (codes "friday")) 0 6 ∷ token (Number 8) 7 8 ∷ token (Word (codes "pm")) 8 10 ∷ []
unfolding tokens_of tokens split_at more kind_of
day_and_hour = refl

date_and_time : phrase_tokens (codes "2018-03-23 20:00") ≡ token (Number 2018) 0 4 ∷ token Dash 4 5 ∷ token (Number 3) 5 7 ∷ token Dash 7 8 ∷ token (Number 23) 8 10 ∷ token (Number 20) 11 13 ∷ token Colon 13 14 ∷ token (Number 0) 14 16 ∷ []
unfolding tokens_of tokens split_at more kind_of
date_and_time = refl

-- a word keeps its capitals, and no blank is needed between tokens
compact : phrase_tokens (codes "6Jul2017T8:05") ≡ token (Number 6) 0 1 ∷ token (Word (codes "Jul")) 1 4 ∷ token (Number 2017) 4 8 ∷ token (Word (codes "T")) 8 9 ∷ token (Number 8) 9 10 ∷ token Colon 10 11 ∷ token (Number 5) 11 13 ∷ []
unfolding tokens_of tokens split_at more kind_of
compact = refl

-- a number has four digits at most: ten of them, over 32 bits, are three numbers
long_number : phrase_tokens (codes "4294967296") ≡ token (Number 4294) 0 4 ∷ token (Number 9672) 4 8 ∷ token (Number 96) 8 10 ∷ []
unfolding tokens_of tokens split_at more kind_of
long_number = refl

-- leading zeros count as digits
leading_zeros : phrase_tokens (codes "00012") ≡ token (Number 1) 0 4 ∷ token (Number 2) 4 5 ∷ []
unfolding tokens_of tokens split_at more kind_of
leading_zeros = refl

-- blanks at both ends and between tokens leave nothing but the places
blanks : phrase_tokens (codes "  5  d ") ≡ token (Number 5) 2 3 ∷ token (Word (codes "d")) 5 6 ∷ []
unfolding tokens_of tokens split_at more kind_of
blanks = refl

-- a tab, a newline and a form feed are blanks; a carriage return is not, and is unknown
blank_bytes : phrase_tokens (9 ∷ 10 ∷ 12 ∷ 13 ∷ []) ≡ token Unknown 3 4 ∷ []
unfolding tokens_of tokens split_at more kind_of
blank_bytes = refl

-- every mark is a token of its own
marks : phrase_tokens (codes "-/:.,+") ≡ token Dash 0 1 ∷ token Slash 1 2 ∷ token Colon 2 3 ∷ token Dot 3 4 ∷ token Comma 4 5 ∷ token Plus 5 6 ∷ []
unfolding tokens_of tokens split_at more kind_of
marks = refl

-- the bytes of ü and of €
umlaut : List ℕ
umlaut = 195 ∷ 188 ∷ []

euro : List ℕ
euro = 226 ∷ 130 ∷ 172 ∷ []

-- a character of several bytes is one token of all of them, and no letter
several_bytes : phrase_tokens (codes "f" ++ umlaut ++ codes "r 2" ++ euro ++ euro) ≡ token (Word (codes "f")) 0 1 ∷ token Unknown 1 3 ∷ token (Word (codes "r")) 3 4 ∷ token (Number 2) 5 6 ∷ token Unknown 6 9 ∷ token Unknown 9 12 ∷ []
unfolding tokens_of tokens split_at more kind_of umlaut euro
several_bytes = refl

only_blanks : phrase_tokens (codes " ") ≡ []
unfolding tokens_of tokens split_at more kind_of
only_blanks = refl

nothing : phrase_tokens (codes "") ≡ []
unfolding tokens_of tokens
nothing = refl
