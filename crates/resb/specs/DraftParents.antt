-- The arrays and tables that a draft makes of the trees that it holds (docs/FORMATS.md, "The writer").
use Rattle.std.specs.Prelude.{◌≡◌, ℕ, ◌<◌, true, List, [], ◌∷◌, ◌++◌, length, Result, MatchResult}
use Rattle.resb_tree.specs.Keys.{distinct, keys_in}
use Rattle.resb_tree.specs.declared.error.ResbError.{ResbError}
use Rattle.resb_tree.specs.declared.error.ResbError.TheVariants.{Memory, NoTree, TooLarge, BadKey}
use Rattle.resb_tree.specs.declared.resource.Resource.{Resource}
use Rattle.resb_tree.specs.declared.resource.Resource.TheVariants as r
use Rattle.resb.specs.Plan.{Refuses}
use Rattle.resb.specs.Entries.{values_in}
use Rattle.resb.specs.Pool.{all_in}
use Rattle.resb.specs.declared.draft.Draft.{Draft}
use Rattle.resb.specs.DraftRows.{Holds, HasRoom}

-- the row has too few trees, or the keys are bad, or memory ran out
abbrev pub Lacks : Type 0 → ResbError → Type 0
Lacks good Memory = Unit {0}
Lacks good NoTree = Unit {0}
Lacks good TooLarge = ⊥
Lacks good BadKey = ¬ good

-- why there is no array of the last `count` trees
pub record NoArray (old : Draft) (count : ℕ) (e : ResbError) : Type 0 where
  pub short : (keys : List (List ℕ)) (row : List Resource) → length row < count → Holds old keys row → Lacks (Unit {0}) e
  pub large : (keys : List (List ℕ)) (row items : List Resource) → length items ≡ count → Holds old keys (row ++ items) → Refuses (HasRoom keys (row ++ r.Array items ∷ [])) e

-- the last `count` trees of the row became the items of an array
abbrev pub MakesArray : {X : Type 0} → Draft → Draft → ℕ → Result X ResbError → Type 0
MakesArray old new count result =
    MatchResult result
    (λ _. (keys : List (List ℕ)) (row items : List Resource) → length items ≡ count → Holds old keys (row ++ items) → Holds new keys (row ++ r.Array items ∷ []))
    (NoArray old count)

-- names that a table may have: each is one of the keys, and no two are equal
abbrev pub AreNames : List (List ℕ) → List (List ℕ) → Type 0
AreNames keys names = (all_in names keys ≡ true) × (distinct names ≡ true)

-- the names are bad, or there is no room, or memory ran out
abbrev pub RefusesTable : Type 0 → Type 0 → ResbError → Type 0
RefusesTable good room Memory = Unit {0}
RefusesTable good room NoTree = ⊥
RefusesTable good room TooLarge = ¬ room
RefusesTable good room BadKey = ¬ good

-- why there is no table of the last trees under these names
pub record NoTable (old : Draft) (names : List (List ℕ)) (e : ResbError) : Type 0 where
  pub short : (keys : List (List ℕ)) (row : List Resource) → length row < length names → Holds old keys row → Lacks (AreNames keys names) e
  pub large : (keys : List (List ℕ)) (row : List Resource) (entries : List (List ℕ × Resource)) → keys_in entries ≡ names → Holds old keys (row ++ values_in entries) → RefusesTable (AreNames keys names) (HasRoom keys (row ++ r.Table entries ∷ [])) e

-- the last trees of the row became the values of a table under these names
abbrev pub MakesTable : {X : Type 0} → Draft → Draft → List (List ℕ) → Result X ResbError → Type 0
MakesTable old new names result =
    MatchResult result
    (λ _. (keys : List (List ℕ)) (row : List Resource) (entries : List (List ℕ × Resource)) → keys_in entries ≡ names → Holds old keys (row ++ values_in entries) → Holds new keys (row ++ r.Table entries ∷ []))
    (NoTable old names)
