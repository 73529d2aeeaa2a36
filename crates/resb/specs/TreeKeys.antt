-- The keys of a tree, each once, and their places (docs/FORMATS.md, "The writer").
use Rattle.std.specs.Prelude.{ℕ, ◌+◌, if◌then◌else◌, List, [], ◌∷◌, ◌++◌, length}
use Rattle.std.specs.Str.{bytes_eq}
use Rattle.resb_tree.specs.Keys.{stands_in}
use Rattle.resb_tree.specs.declared.resource.Resource.{Resource, fold-Resource}
use Rattle.resb_tree.specs.declared.resource.Resource.TheOpen.{Resource-F}

-- the keys of entries and of their values, an entry's key first
abbrev pub entry_keys : List (List ℕ × List (List ℕ)) → List (List ℕ)
entry_keys [] = []
entry_keys (e ∷ es) = e.0 ∷ e.1 ++ entry_keys es

-- the keys of items, one after the other
abbrev pub item_keys : List (List (List ℕ)) → List (List ℕ)
item_keys [] = []
item_keys (x ∷ xs) = x ++ item_keys xs

-- the keys of a tree by those of its children
abbrev pub layer_keys : Resource-F (List (List ℕ)) → List (List ℕ)
layer_keys (Resource-F.Table entries) = entry_keys entries
layer_keys (Resource-F.Array items) = item_keys items
layer_keys _ = []

-- the keys in the order in which a walk meets them, an entry's key before its value
unfoldable pub keys_met : Resource → List (List ℕ)
keys_met = fold-Resource (List (List ℕ)) layer_keys

-- those that are not among the ones before them
abbrev pub first_keys : List (List ℕ) → List (List ℕ) → List (List ℕ)
first_keys seen [] = []
first_keys seen (k ∷ ks) = if stands_in k seen then first_keys seen ks else k ∷ first_keys (seen ++ k ∷ []) ks

-- each key once
abbrev pub key_pool : Resource → List (List ℕ)
key_pool t = first_keys [] (keys_met t)

-- each with its zero byte
abbrev pub pool_bytes : List (List ℕ) → List ℕ
pool_bytes [] = []
pool_bytes (k ∷ ks) = k ++ 0 ∷ pool_bytes ks

-- the byte at which a key of the pool begins, where the pool begins at `at`
abbrev pub key_place : List (List ℕ) → ℕ → List ℕ → ℕ
key_place [] at key = at
key_place (k ∷ ks) at key = if bytes_eq k key then at else key_place ks (at + length k + 1) key
