-- What the definitions of words and trees keep (docs/FORMATS.md, "The writer").
use Rattle.std.specs.Prelude.{◌≡◌, ℕ, Bool, true, false, Some, List}
use Rattle.std.specs.List.{list_all}
use Rattle.std.specs.Simd.Lanes.{all_below}
use Rattle.resb_tree.specs.declared.resource.Resource.{Resource, fold-Resource}
use Rattle.resb_tree.specs.declared.resource.Resource.TheOpen.{Resource-F}
use Rattle.resb_tree.specs.Header.{tree_of}
use Rattle.resb.specs.WrittenFiles.{written}
use Rattle.resb.specs.BadKeys.{has_bad_key}
use Rattle.resb.specs.Writing.{is_too_large}

-- the parts of a tree have the sizes of their types, by what holds of its children
abbrev pub layer_typed : Resource-F Bool → Bool
layer_typed (Resource-F.Text units) = all_below 65536 units
layer_typed (Resource-F.Bytes bytes) = all_below 256 bytes
layer_typed (Resource-F.Table entries) = list_all (λ (e : List ℕ × Bool). e.1) entries
layer_typed (Resource-F.Array items) = list_all (λ b. b) items
layer_typed _ = true

-- each unit of a text has 16 bits, and each of a list of bytes has 8
unfoldable pub has_typed_parts : Resource → Bool
has_typed_parts = fold-Resource Bool layer_typed

-- a tree is denoted by the words that are written for it, where it can be written
abbrev pub WordsDenote : Type 0
WordsDenote = (t : Resource) → has_typed_parts t ≡ true → has_bad_key t ≡ false → is_too_large t ≡ false → tree_of (written t) ≡ Some t
