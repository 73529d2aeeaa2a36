-- Keys that are not written (docs/FORMATS.md, "The writer").
use Rattle.std.specs.Prelude.{ℕ, Bool, false, not, ◌&&◌, ◌||◌, nat_lt, List}
use Rattle.std.specs.List.{list_any, list_all}
use Rattle.resb_tree.specs.Keys.{distinct, keys_in}
use Rattle.resb_tree.specs.declared.resource.Resource.{Resource, fold-Resource}
use Rattle.resb_tree.specs.declared.resource.Resource.TheOpen.{Resource-F}

-- each byte is 1 to 127
abbrev pub is_key : List ℕ → Bool
is_key = list_all (λ b. nat_lt 0 b && nat_lt b 128)

-- each of these is a key
abbrev pub all_keys : List (List ℕ) → Bool
all_keys = list_all is_key

-- a tree has a bad key, by its own keys and by what holds of its children
abbrev pub layer_bad : Resource-F Bool → Bool
layer_bad (Resource-F.Table entries) =
    not (all_keys (keys_in entries) && distinct (keys_in entries)) || list_any (λ (e : List ℕ × Bool). e.1) entries
layer_bad (Resource-F.Array items) = list_any (λ b. b) items
layer_bad _ = false

-- some key has a byte outside 1 to 127, or stands twice in one table
unfoldable pub has_bad_key : Resource → Bool
has_bad_key = fold-Resource Bool layer_bad
