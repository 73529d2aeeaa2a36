-- The pool of keys: where each begins (docs/FORMATS.md, "Keys").
use Rattle.std.specs.Prelude.{ℕ, ◌+◌, Bool, List, length, map}
use Rattle.std.specs.List.{list_all}
use Rattle.std.specs.Borrow.{Bor}
use Rattle.resb_tree.specs.Keys.{stands_in}
use Rattle.resb.specs.TreeKeys.{key_place, pool_bytes}
use Rattle.resb.specs.Packing.{pack_bytes}

-- borrowed keys, as the keys
abbrev pub bare : List (Bor (List ℕ)) → List (List ℕ)
bare keys = map (λ k. k.now) keys

-- the body word behind the pool
abbrev pub words_end : List (List ℕ) → ℕ
words_end keys = 8 + length (pack_bytes (pool_bytes keys))

-- the byte where a key begins, or would begin behind the others
abbrev pub place_of : List (List ℕ) → List ℕ → ℕ
place_of keys = key_place keys 32

-- each of these is one of those
abbrev pub all_in : List (List ℕ) → List (List ℕ) → Bool
all_in these those = list_all (λ k. stands_in k those) these
