-- The words of a whole bundle (docs/FORMATS.md, "The writer").
use Rattle.std.specs.Prelude.{ℕ, ◌+◌, max, List, [], ◌∷◌, ◌++◌, length, map}
use Rattle.resb_tree.specs.declared.resource.Resource.{Resource, fold-Resource}
use Rattle.resb_tree.specs.declared.resource.Resource.TheOpen.{Resource-F}
use Rattle.resb.specs.Packing.{pack_bytes}
use Rattle.resb.specs.TreeKeys.{key_pool, pool_bytes, key_place}
use Rattle.resb.specs.LaidTrees.{laid}

-- the greatest of numbers, 0 without one
abbrev pub most_of : List ℕ → ℕ
most_of [] = 0
most_of (n ∷ ns) = max n (most_of ns)

-- the greatest number of entries of a table, by what it is in the children
abbrev pub layer_most : Resource-F ℕ → ℕ
layer_most (Resource-F.Table entries) = max (length entries) (most_of (map (λ (e : List ℕ × ℕ). e.1) entries))
layer_most (Resource-F.Array items) = most_of items
layer_most _ = 0

-- the greatest number of entries of a table
unfoldable pub most_entries : Resource → ℕ
most_entries = fold-Resource ℕ layer_most

-- 24 bytes: format 2 of a bundle, its marks, low bytes first
abbrev pub header : List ℕ
header = 0x27DA0018 ∷ 0x14 ∷ 0x20000 ∷ 0x42736552 ∷ 2 ∷ 0 ∷ []

-- the body's words: root item, index, keys, resources
unfoldable pub written_body : Resource → List ℕ
written_body t =
    let pool = key_pool t in
    let keys = pack_bytes (pool_bytes pool) in
    let keys_end = 8 + length keys in
    let root = laid t (key_place pool 32) keys_end in
    let end = keys_end + length root.0 in
    (root.1 ∷ 7 ∷ keys_end ∷ end ∷ end ∷ most_entries t ∷ 0 ∷ keys_end ∷ []) ++ keys ++ root.0

-- the words of the file: the header and the body
unfoldable pub written : Resource → List ℕ
written t = header ++ written_body t
