-- The keys that a walk over a tree meets, by the tree's kind (docs/FORMATS.md, "The writer").
use Rattle.std.specs.Prelude.{◌≡◌, ℕ, List, [], map}
use Rattle.resb_tree.specs.declared.resource.Resource.{Resource}
use Rattle.resb_tree.specs.declared.resource.Resource.TheVariants as r
use Rattle.resb.specs.Entries.{told_values}
use Rattle.resb.specs.TreeKeys.{keys_met, entry_keys, item_keys}

-- a walk meets each key where the tree has it
pub record WalksMeetKeys : Type 0 where
  -- a tree without children has none
  pub text : (v : List ℕ) → keys_met (r.Text v) ≡ []
  pub bytes : (v : List ℕ) → keys_met (r.Bytes v) ≡ []
  pub integers : (v : List ℕ) → keys_met (r.Integers v) ≡ []
  pub integer : (v : ℕ) → keys_met (r.Integer v) ≡ []
  -- an array has those of its items
  pub array : (v : List Resource) → keys_met (r.Array v) ≡ item_keys (map keys_met v)
  -- and a table those of its entries, each before those of its value
  pub table : (v : List (List ℕ × Resource)) → keys_met (r.Table v) ≡ entry_keys (told_values keys_met v)
