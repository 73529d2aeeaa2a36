-- The characters of which tokens are made (docs/GRAMMAR.md, "Tokens").
use Rattle.std.specs.Prelude.{ℕ, ◌+◌, ◌-◌, ◌*◌, Bool, ◌&&◌, ◌||◌, List, [], ◌∷◌, length, take_while, nat_le, ◌==◌, if◌then◌else◌}

-- a space, a tab, a newline or a form feed
abbrev pub is_blank : ℕ → Bool
is_blank b = b == 32 || b == 9 || b == 10 || b == 12

-- an ASCII letter
abbrev pub is_letter : ℕ → Bool
is_letter b = nat_le 65 b && nat_le b 90 || nat_le 97 b && nat_le b 122

-- the later bytes of a character in UTF-8
abbrev pub continues : ℕ → Bool
continues b = nat_le 128 b && nat_le b 191

-- how many bytes pass from the front on
abbrev pub run_len : (ℕ → Bool) → List ℕ → ℕ
run_len p bs = length (take_while p bs)

-- blanks at the front are dropped
abbrev pub skip : List ℕ → List ℕ
skip [] = []
skip (b ∷ bs) = if is_blank b then skip bs else b ∷ bs

-- a number with decimal digits appended
abbrev pub decimal_from : ℕ → List ℕ → ℕ
decimal_from n [] = n
decimal_from n (d ∷ ds) = decimal_from (n * 10 + (d - 48)) ds
