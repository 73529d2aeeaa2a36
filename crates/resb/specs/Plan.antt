-- The limits of the words that are written (docs/FORMATS.md, "The writer").
use Rattle.std.specs.Prelude.{◌≡◌, ℕ, ◌+◌, ◌≤◌, false, List, length, map}
use Rattle.std.specs.List.{list_any}
use Rattle.resb.specs.Packing.{most_unit}
use Rattle.resb.specs.TreeKeys.{keys_met, item_keys}
use Rattle.resb.specs.LaidTrees.{laid, lay_all}
use Rattle.resb.specs.WrittenFiles.{most_of, most_entries}
use Rattle.resb.specs.Writing.{has_wide_integer}
use Rattle.resb_tree.specs.declared.error.ResbError.{ResbError}
use Rattle.resb_tree.specs.declared.error.ResbError.TheVariants.{Memory, NoTree, TooLarge, BadKey}
use Rattle.resb_tree.specs.declared.resource.Resource.{Resource}

-- the most words of a body: a file has at most 1048576, and 6 are its header
abbrev pub most_words : ℕ
most_words = 1048570

-- trees that are laid one after the other from a body word on stay within the limits
pub record FitsAll (ts : List Resource) (places : List ℕ → ℕ) (at : ℕ) : Type 0 where
  pub room : at + length (lay_all (map laid ts) places at).0 ≤ most_words
  pub near : most_of (map places (item_keys (map keys_met ts))) ≤ most_unit
  pub counts : most_of (map most_entries ts) ≤ most_unit
  pub small : list_any has_wide_integer ts ≡ false

-- memory ran out, or the tree is too large, which it is only where it does not fit
abbrev pub Refuses : Type 0 → ResbError → Type 0
Refuses fits Memory = Unit {0}
Refuses fits TooLarge = ¬ fits
Refuses fits NoTree = ⊥
Refuses fits BadKey = ⊥
