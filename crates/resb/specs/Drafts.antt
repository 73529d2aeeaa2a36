-- When a draft is written (docs/FORMATS.md, "The writer").
use Rattle.std.specs.Prelude.{◌≡◌, ◌≢◌, ℕ, ◌+◌, ◌*◌, ◌<◌, List, length, map, sum_by}
use Rattle.resb_tree.specs.Weight.{weight}
use Rattle.resb_tree.specs.declared.error.ResbError.{ResbError}
use Rattle.resb_tree.specs.declared.error.ResbError.TheVariants.{Memory, NoTree, TooLarge, BadKey}
use Rattle.resb_tree.specs.declared.resource.Resource.{Resource}
use Rattle.resb.specs.Pool.{place_of, words_end}
use Rattle.resb.specs.LaidTrees.{laid, lay_all}

-- how many words a bundle of these keys and trees has
abbrev pub bundle_length : List (List ℕ) → List Resource → ℕ
bundle_length keys row = 6 + (words_end keys + length (lay_all (map laid row) (place_of keys) (words_end keys)).0)

-- why a row is not written: it is not one tree, or that tree is too heavy for its words, or memory ran out
abbrev pub Unwritten : List (List ℕ) → List Resource → ResbError → Type 0
Unwritten keys row Memory = Unit {0}
Unwritten keys row NoTree = length row ≢ 1
Unwritten keys row TooLarge = (length row ≡ 1) × (8 * bundle_length keys row < sum_by weight row)
Unwritten keys row BadKey = ⊥
