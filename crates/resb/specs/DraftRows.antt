-- What a draft holds between its calls, and what room it has (docs/FORMATS.md, "The writer").
use Rattle.std.specs.Prelude.{◌≡◌, ℕ, ◌+◌, ◌≤◌, true, false, List, [], ◌∷◌, ◌++◌, map, sum_by, Result, MatchResult}
use Rattle.std.specs.List.{list_any, list_all}
use Rattle.resb_tree.specs.Weight.{weight, most_weight}
use Rattle.resb_tree.specs.declared.error.ResbError.{ResbError}
use Rattle.resb_tree.specs.declared.resource.Resource.{Resource}
use Rattle.resb.specs.Laws.{has_typed_parts}
use Rattle.resb.specs.Packing.{most_unit}
use Rattle.resb.specs.Plan.{FitsAll, Refuses}
use Rattle.resb.specs.Pool.{bare, place_of, words_end}
use Rattle.resb.specs.LaidTrees.{laid, lay_all}
use Rattle.resb.specs.WrittenFiles.{most_of, most_entries}
use Rattle.resb.specs.Writing.{depth, places_of}
use Rattle.resb.specs.BadKeys.{all_keys, has_bad_key}
use Rattle.resb.specs.declared.draft.Draft.{Draft}

-- trees that are written one after the other behind their keys: the words, the items, and all that limits them
pub record Row (keys : List (List ℕ)) (row : List Resource) (base : ℕ) (words items levels : List ℕ) (left most : ℕ) : Type 0 where
  pub behind : base ≡ words_end keys
  pub near : most_of (places_of keys 32) ≤ most_unit
  pub good : all_keys keys ≡ true
  pub laid_words : words ≡ (lay_all (map laid row) (place_of keys) base).0
  pub laid_items : items ≡ (lay_all (map laid row) (place_of keys) base).1
  pub fits : FitsAll row (place_of keys) base
  pub deep : levels ≡ map depth row
  pub shallow : most_of (map depth row) ≤ 8
  pub weight : left + sum_by weight row ≡ most_weight
  pub counts : most ≡ most_of (map most_entries row)
  pub typed : list_all has_typed_parts row ≡ true
  pub apart : list_any has_bad_key row ≡ false

-- a draft with these keys holds these trees
abbrev pub Holds : Draft → List (List ℕ) → List Resource → Type 0
Holds d keys row =
    (bare d.pool.keys.items ≡ keys) × Row keys row d.base d.laying.words.items d.laying.items.items d.levels.items d.left d.most

-- a bundle with these keys has room for these trees: their words, levels and weights stay within the limits
pub record HasRoom (keys : List (List ℕ)) (row : List Resource) : Type 0 where
  pub fits : FitsAll row (place_of keys) (words_end keys)
  pub shallow : most_of (map depth row) ≤ 8
  pub light : sum_by weight row ≤ most_weight

-- a tree was put at the end of the row; or memory ran out, or there is no room for the row with it
abbrev pub Puts : {X : Type 0} → Draft → Draft → Resource → Result X ResbError → Type 0
Puts old new tree result =
    MatchResult result
    (λ _. (keys : List (List ℕ)) (row : List Resource) → Holds old keys row → Holds new keys (row ++ tree ∷ []))
    (λ e. (keys : List (List ℕ)) (row : List Resource) → Holds old keys row → Refuses (HasRoom keys (row ++ tree ∷ [])) e)
