-- Keys that stand once (docs/FORMATS.md, "Keys").
use Rattle.std.specs.Prelude.{if◌then◌else◌, ℕ, Bool, true, false, not, ◌&&◌, List, [], ◌∷◌, map}
use Rattle.std.specs.Str.{bytes_eq}

-- a key is one of these
abbrev pub stands_in : List ℕ → List (List ℕ) → Bool
stands_in key [] = false
stands_in key (k ∷ ks) = if bytes_eq key k then true else stands_in key ks

-- no two keys are equal
abbrev pub distinct : List (List ℕ) → Bool
distinct [] = true
distinct (key ∷ keys) = not (stands_in key keys) && distinct keys

-- the keys of entries
abbrev pub keys_in : {A : Type 0} → List (List ℕ × A) → List (List ℕ)
keys_in entries = map (λ e. e.0) entries
