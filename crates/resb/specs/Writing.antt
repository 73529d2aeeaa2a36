-- What is answered for a tree that is to be written (docs/FORMATS.md, "The writer").
use Rattle.std.specs.Prelude.{◌≡◌, ℕ, ◌+◌, ◌*◌, Bool, false, ◌||◌, nat_le, nat_lt, if◌then◌else◌, List, [], ◌∷◌, length, map, Result, Ok, Err}
use Rattle.std.specs.List.{list_any}
use Rattle.resb_tree.specs.Words.{value_count}
use Rattle.resb_tree.specs.Weight.{weight}
use Rattle.resb_tree.specs.declared.error.ResbError.{ResbError}
use Rattle.resb_tree.specs.declared.error.ResbError.TheVariants.{Memory, TooLarge, BadKey}
use Rattle.resb_tree.specs.declared.resource.Resource.{Resource, fold-Resource}
use Rattle.resb_tree.specs.declared.resource.Resource.TheOpen.{Resource-F}
use Rattle.resb.specs.Packing.{most_unit}
use Rattle.resb.specs.TreeKeys.{key_pool}
use Rattle.resb.specs.WrittenFiles.{most_of, most_entries, written}
use Rattle.resb.specs.BadKeys.{has_bad_key}

-- a tree's levels by those of its children
abbrev pub layer_depth : Resource-F ℕ → ℕ
layer_depth (Resource-F.Table entries) = 1 + most_of (map (λ (e : List ℕ × ℕ). e.1) entries)
layer_depth (Resource-F.Array items) = 1 + most_of items
layer_depth _ = 1

-- how many levels a tree has
unfoldable pub depth : Resource → ℕ
depth = fold-Resource ℕ layer_depth

-- some integer has more than 28 bits, by what holds of the children
abbrev pub layer_wide : Resource-F Bool → Bool
layer_wide (Resource-F.Integer v) = nat_le value_count v
layer_wide (Resource-F.Table entries) = list_any (λ (e : List ℕ × Bool). e.1) entries
layer_wide (Resource-F.Array items) = list_any (λ b. b) items
layer_wide _ = false

-- some integer has more than 28 bits
unfoldable pub has_wide_integer : Resource → Bool
has_wide_integer = fold-Resource Bool layer_wide

-- the byte where each key of a pool begins, where the pool begins at `at`
abbrev pub places_of : List (List ℕ) → ℕ → List ℕ
places_of [] at = []
places_of (k ∷ ks) at = at ∷ places_of ks (at + length k + 1)

-- the file has no room for the tree
unfoldable pub is_too_large : Resource → Bool
is_too_large t =
    nat_lt 1048576 (length (written t)) || nat_lt 8 (depth t) || nat_lt most_unit (most_of (places_of (key_pool t) 32))
    || nat_lt most_unit (most_entries t) || has_wide_integer t || nat_lt (8 * length (written t)) (weight t)

-- the words, or why there are none
abbrev pub writing : Resource → Result (List ℕ) ResbError
writing t = if has_bad_key t then Err BadKey else (if is_too_large t then Err TooLarge else Ok (written t))

-- what was written is what is to be written, or memory ran out
abbrev pub Writes : {X : Type 0} → (X → List ℕ) → Result X ResbError → Result (List ℕ) ResbError → Type 0
Writes view (Ok x) plan = plan ≡ Ok (view x)
Writes view (Err Memory) plan = Unit {0}
Writes view (Err e) plan = plan ≡ Err e
