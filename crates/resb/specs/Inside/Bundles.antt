-- The words of a file, of its parts (docs/FORMATS.md, "The writer").
use Rattle.std.specs.Prelude.{ℕ, ◌+◌, List, [], ◌∷◌, ◌++◌, length}
use Rattle.resb.specs.Packing.{pack_bytes}
use Rattle.resb.specs.TreeKeys.{pool_bytes}
use Rattle.resb.specs.WrittenFiles.{header}

-- the words of a file of these keys and resources, of which one is the root
abbrev pub bundle_of : List (List ℕ) → ℕ → ℕ → List ℕ → ℕ → List ℕ
bundle_of keys keys_end root resources most =
    let end = keys_end + length resources in
    header ++ ((root ∷ 7 ∷ keys_end ∷ end ∷ end ∷ most ∷ 0 ∷ keys_end ∷ []) ++ pack_bytes (pool_bytes keys) ++ resources)
