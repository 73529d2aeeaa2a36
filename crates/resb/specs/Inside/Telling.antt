-- Trees that are told to a draft (docs/FORMATS.md, "The writer").
use Rattle.std.specs.Prelude.{◌≡◌, ℕ, ◌<◌, true, false, List, [], ◌∷◌, ◌++◌, length, Result, MatchResult}
use Rattle.std.specs.List.{list_any}
use Rattle.resb_tree.specs.Keys.{distinct, keys_in}
use Rattle.resb_tree.specs.declared.error.ResbError.{ResbError}
use Rattle.resb_tree.specs.declared.resource.Resource.{Resource}
use Rattle.resb_tree.specs.declared.resource.Resource.TheVariants as r
use Rattle.resb.specs.DraftRows.{Holds, HasRoom}
use Rattle.resb.specs.DraftParents.{Lacks}
use Rattle.resb.specs.Plan.{Refuses}
use Rattle.resb.specs.Entries.{values_in}
use Rattle.resb.specs.BadKeys.{all_keys, has_bad_key}
use Rattle.resb.specs.declared.draft.Draft.{Draft}

-- an array of these items
abbrev pub array_of : List Resource → Resource
array_of items = r.Array items

-- a table of these entries
abbrev pub table_of : List (List ℕ × Resource) → Resource
table_of entries = r.Table entries

-- trees with no bad key were put at the end of the row; or memory ran out, or there is no room for the row with them
abbrev pub Tells : {X : Type 0} → Draft → Draft → List Resource → Result X ResbError → Type 0
Tells old new trees result =
    MatchResult result
    (λ _. (keys : List (List ℕ)) (row : List Resource) → list_any has_bad_key trees ≡ false → Holds old keys row → Holds new keys (row ++ trees))
    (λ e. (keys : List (List ℕ)) (row : List Resource) → list_any has_bad_key trees ≡ false → Holds old keys row → Refuses (HasRoom keys (row ++ trees)) e)

-- why there is no table under good names
pub record NamesNone (old : Draft) (names : List (List ℕ)) (e : ResbError) : Type 0 where
  pub short : (keys : List (List ℕ)) (row : List Resource) → length row < length names → Holds old keys row → Lacks (Unit {0}) e
  pub large : (keys : List (List ℕ)) (row : List Resource) (entries : List (List ℕ × Resource)) → keys_in entries ≡ names → Holds old keys (row ++ values_in entries) → Refuses (HasRoom keys (row ++ r.Table entries ∷ [])) e

-- the last trees became the values of a table under these names, where they are good
abbrev pub Names : {X : Type 0} → Draft → Draft → List (List ℕ) → Result X ResbError → Type 0
Names old new names result =
    MatchResult result
    (λ _. (keys : List (List ℕ)) (row : List Resource) (entries : List (List ℕ × Resource)) → keys_in entries ≡ names → all_keys names ≡ true → distinct names ≡ true → Holds old keys (row ++ values_in entries) → Holds new keys (row ++ r.Table entries ∷ []))
    (NamesNone old names)
