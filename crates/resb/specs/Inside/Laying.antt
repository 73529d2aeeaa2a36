-- Trees whose words stand behind others (docs/FORMATS.md, "The writer").
use Rattle.std.specs.Prelude.{◌≡◌, ◌≤◌, false, ℕ, ◌+◌, List, ◌++◌, length, map, Result, MatchResult}
use Rattle.resb_tree.specs.declared.error.ResbError.{ResbError}
use Rattle.resb_tree.specs.declared.resource.Resource.{Resource}
use Rattle.resb.specs.Packing.{most_unit}
use Rattle.resb.specs.TreeKeys.{keys_met}
use Rattle.resb.specs.WrittenFiles.{most_of, most_entries}
use Rattle.resb.specs.Writing.{has_wide_integer}
use Rattle.resb.specs.Plan.{most_words, FitsAll, Refuses}
use Rattle.resb.specs.LaidTrees.{laid, lay_all}

-- where there are no keys
abbrev pub no_places : List ℕ → ℕ
no_places key = 0

-- the words of a leaf, which has no keys, from a body word on
abbrev pub leaf_words : Resource → ℕ → List ℕ
leaf_words t at = (laid t no_places at).0

-- and its item
abbrev pub leaf_item : Resource → ℕ → ℕ
leaf_item t at = (laid t no_places at).1

-- they end within the limit
abbrev pub LeafFits : Resource → ℕ → Type 0
LeafFits t at = at + length (leaf_words t at) ≤ most_words

-- a tree that is laid from a body word on stays within the limits
pub record Fits (t : Resource) (places : List ℕ → ℕ) (at : ℕ) : Type 0 where
  pub room : at + length (laid t places at).0 ≤ most_words
  pub near : most_of (map places (keys_met t)) ≤ most_unit
  pub counts : most_entries t ≤ most_unit
  pub small : has_wide_integer t ≡ false

-- a tree stands behind the old words, the first of which is body word `base`, and this is its item
pub record IsLaid (t : Resource) (places : List ℕ → ℕ) (base : ℕ) (old new : List ℕ) (told : ℕ) : Type 0 where
  pub words : new ≡ old ++ (laid t places (base + length old)).0
  pub item : told ≡ (laid t places (base + length old)).1
  pub fits : Fits t places (base + length old)

-- the same of trees one after the other
pub record Stands (ts : List Resource) (places : List ℕ → ℕ) (base : ℕ) (old new told : List ℕ) : Type 0 where
  pub words : new ≡ old ++ (lay_all (map laid ts) places (base + length old)).0
  pub items : told ≡ (lay_all (map laid ts) places (base + length old)).1
  pub fits : FitsAll ts places (base + length old)

-- a tree was laid behind the old words, and its item is answered; or memory ran out, or the tree does not fit there
abbrev pub Lays : Resource → (List ℕ → ℕ) → ℕ → List ℕ → List ℕ → Result ℕ ResbError → Type 0
Lays t places base old new result = MatchResult result (IsLaid t places base old new) (Refuses (Fits t places (base + length old)))
