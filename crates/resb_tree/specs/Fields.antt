-- The fields of a table, as their readers tell them (docs/FORMATS.md, "Items").
use Rattle.std.specs.Prelude.{◌≡◌, ℕ, slice_get, remove, List, [], ◌∷◌, Option, Some, None, if◌then◌else◌}
use Rattle.std.specs.Str.{bytes_eq}
use Rattle.std.specs.Borrow.{Bor}
use Rattle.resb_tree.specs.declared.resource.Resource.{Resource, out-Resource}
use Rattle.resb_tree.specs.declared.resource.Resource.TheOpen.{Resource-F}
use Rattle.resb_tree.specs.declared.resource.Resource.TheVariants as r

-- the value of the first entry with the key
abbrev pub first_with : List ℕ → List (List ℕ × Resource) → Option Resource
first_with key [] = None
first_with key (e ∷ es) = if bytes_eq e.0 key then Some e.1 else first_with key es

-- the entries without the first one with the key
abbrev pub without_first : List ℕ → List (List ℕ × Resource) → List (List ℕ × Resource)
without_first key [] = []
without_first key (e ∷ es) = if bytes_eq e.0 key then es else e ∷ without_first key es

-- an entry that stands at a place is the first with the key
pub record StandsFirst (key : List ℕ) (at : ℕ) (entries : List (List ℕ × Resource)) : Type 0 where
  pub entry : List ℕ × Resource
  pub there : slice_get entries at ≡ Some entry
  pub first : first_with key entries ≡ Some entry.1
  pub others : remove entries at ≡ without_first key entries

-- a table's value for a key, by its outermost layer
abbrev pub field_layer : List ℕ → Resource-F Resource → Option Resource
field_layer key (Resource-F.Table entries) = first_with key entries
field_layer key _ = None

-- the value of a table for a key
abbrev pub field_in : List ℕ → Resource → Option Resource
field_in key t = field_layer key (out-Resource t)

-- a tree without the first entry with the key, by its outermost layer
abbrev pub without_layer : List ℕ → Resource → Resource-F Resource → Resource
without_layer key t (Resource-F.Table entries) = r.Table (without_first key entries)
without_layer key t _ = t

-- a table without the first entry with the key; another kind stays as it is
abbrev pub without_field : List ℕ → Resource → Resource
without_field key t = without_layer key t (out-Resource t)

-- a borrowed list, as the list
abbrev pub seen : {A : Type 0} → Option (Bor (List A)) → Option (List A)
seen None = None
seen (Some r) = Some r.now
