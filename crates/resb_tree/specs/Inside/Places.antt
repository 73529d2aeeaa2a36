-- The trees, items and entries at places of a body, where there are some (docs/FORMATS.md, "Items").
use Rattle.std.specs.Prelude.{◌≡◌, ℕ, ◌+◌, ◌<◌, ◌≤◌, List, [], slice_index, Option, Some, None}
use Rattle.resb_tree.specs.Words.{run}
use Rattle.resb_tree.specs.Bodies.{Body}
use Rattle.resb_tree.specs.Tree.{tree_at}
use Rattle.resb_tree.specs.Inside.Forms.{item_in, items_end, entry_in, EntriesLie}
use Rattle.resb_tree.specs.Inside.KeyPlaces.{key_there, HaveKeys}
use Rattle.resb_tree.specs.declared.forms.ArrayForm.{ArrayForm}
use Rattle.resb_tree.specs.declared.forms.TableForm.{TableForm}
use Rattle.resb_tree.specs.declared.resource.Resource.{Resource}
use Rattle.resb_tree.specs.declared.resource.Resource.TheVariants as r

-- a tree, or an empty array where there is none
abbrev pub the_tree : Option Resource → Resource
the_tree (Some t) = t
the_tree None = r.Array []

-- ---- a resource

-- the tree that an item denotes
abbrev pub tree_there : Body → ℕ → ℕ → Resource
tree_there b levels item = the_tree (tree_at b levels item)

-- an item denotes a tree
abbrev pub IsTree : Body → ℕ → ℕ → Type 0
IsTree b levels item = tree_at b levels item ≡ Some (tree_there b levels item)

-- the tree of the root item
abbrev pub root_there : Body → Resource
root_there b = tree_there b 8 (slice_index b.words 0)

-- the root item denotes a tree
abbrev pub IsRoot : Body → Type 0
IsRoot b = IsTree b 8 (slice_index b.words 0)

-- ---- the items of an array

-- the trees of so many items from a place on
abbrev pub items_there : Body → ArrayForm → ℕ → ℕ → ℕ → List Resource
items_there b form levels from count = run (λ at. tree_there b levels (item_in form b at)) from count

-- so many items lie where they may, and denote trees
pub record AreItems (b : Body) (form : ArrayForm) (levels from count : ℕ) : Type 0 where
  pub lie : from + count ≤ items_end form b
  pub each : (k : ℕ) → k < count → IsTree b levels (item_in form b (from + k))

-- ---- the entries of a table

-- the key and the tree of an entry
abbrev pub entry_there : Body → TableForm → ℕ → ℕ → ℕ → ℕ → List ℕ × Resource
entry_there b form levels v count k = let e = entry_in form b v count k in (key_there b e.0, tree_there b levels e.1)

-- those of so many entries
abbrev pub entries_there : Body → TableForm → ℕ → ℕ → ℕ → List (List ℕ × Resource)
entries_there b form levels v count = run (entry_there b form levels v count) 0 count

-- so many entries lie where they may, and have keys and trees
pub record AreEntries (b : Body) (form : TableForm) (levels v count : ℕ) : Type 0 where
  pub lie : EntriesLie form b v count
  pub keys : HaveKeys b form v count
  pub trees : (k : ℕ) → k < count → IsTree b levels (entry_in form b v count k).1
