-- The bytes of a text: the UTF-8 of its characters (docs/WORDS.md, "Languages").
use Rattle.std.specs.Prelude.{ℕ, List, [], ◌∷◌, ◌++◌, ◌+◌, ◌/◌, ◌%◌, codes, if◌then◌else◌, nat_lt}
use Prim.Native.String.{String}

-- the bytes of a character
abbrev pub utf8 : ℕ → List ℕ
utf8 c =
    if nat_lt c 128 then c ∷ [] else (
    if nat_lt c 2048 then (192 + c / 64) ∷ (128 + c % 64) ∷ [] else (
    if nat_lt c 65536 then (224 + c / 4096) ∷ (128 + c / 64 % 64) ∷ (128 + c % 64) ∷ [] else
    (240 + c / 262144) ∷ (128 + c / 4096 % 64) ∷ (128 + c / 64 % 64) ∷ (128 + c % 64) ∷ []))

-- the bytes of these characters, one after the other
abbrev pub utf8_all : List ℕ → List ℕ
utf8_all [] = []
utf8_all (c ∷ cs) = utf8 c ++ utf8_all cs

-- the bytes of a text: the UTF-8 of its characters
abbrev pub text : String → List ℕ
text s = utf8_all (codes s)
