-- The pool into which the keys of a tree are put (docs/FORMATS.md, "The writer").
use Rattle.std.specs.Prelude.{◌≡◌, ℕ, ◌+◌, List, [], ◌∷◌, ◌++◌, Option, Some, None, Result, Ok, Err, if◌then◌else◌, nat_lt, length}
use Rattle.resb_tree.specs.Keys.{stands_in}
use Rattle.resb_tree.specs.Options.{◌>>=◌}
use Rattle.resb_tree.specs.declared.error.ResbError.{ResbError}
use Rattle.resb_tree.specs.declared.error.ResbError.TheVariants.{Memory, NoTree, TooLarge, BadKey}
use Rattle.resb.specs.Packing.{most_unit}
use Rattle.resb.specs.TreeKeys.{pool_bytes}
use Rattle.resb.specs.Pool.{place_of}

-- the byte behind the pool
abbrev pub pool_end : List (List ℕ) → ℕ
pool_end keys = 32 + length (pool_bytes keys)

-- the pool with a key more, where the key's place fits
abbrev pub added : List (List ℕ) → List ℕ → Option (List (List ℕ))
added keys key =
    if stands_in key keys then Some keys else (if nat_lt most_unit (pool_end keys) then None else Some (keys ++ key ∷ []))

-- the pool with more keys, in their order
unfoldable pub pooled : List (List ℕ) → List (List ℕ) → Option (List (List ℕ))
pooled keys [] = Some keys
pooled keys (k ∷ ks) = added keys k >>= λ more. pooled more ks

-- what was made is what there is, or there is no room for it, or memory ran out
abbrev pub Fills : {X Y : Type 0} → (X → Y) → Result X ResbError → Option Y → Type 0
Fills view (Ok x) found = found ≡ Some (view x)
Fills view (Err Memory) found = Unit {0}
Fills view (Err TooLarge) found = found ≡ None
Fills view (Err NoTree) found = ⊥
Fills view (Err BadKey) found = ⊥

-- the byte where a key of the pool begins
abbrev pub place_told : List (List ℕ) → List ℕ → Option ℕ
place_told keys key = if stands_in key keys then Some (place_of keys key) else None
