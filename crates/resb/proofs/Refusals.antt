-- Why there is no array or table of the last trees of a row.
use Rattle.std.proofs.Common.{◌≡◌, ℕ, ◌+◌, ◌-◌, ◌<◌, true, List, [], ◌∷◌, ◌++◌, length, drop, take, sym, ap, ◌∙◌, arith}
use Rattle.std.proofs.lemmas.List.{length-append, length-map}
use Rattle.std.specs.Prelude.{Result, Ok, Err}
use Rattle.resb_tree.specs.Keys.{distinct, keys_in}
use Rattle.resb_tree.specs.declared.error.ResbError.{ResbError}
use Rattle.resb_tree.specs.declared.error.ResbError.TheVariants.{Memory, NoTree, TooLarge, BadKey}
use Rattle.resb_tree.specs.declared.resource.Resource.{Resource}
use Rattle.resb_tree.specs.declared.resource.Resource.TheVariants as r
use Rattle.resb.specs.DraftRows.{Holds, HasRoom}
use Rattle.resb.specs.DraftParents.{Lacks, NoArray, AreNames, RefusesTable, MakesTable}
use Rattle.resb.specs.DraftParents.{NoTable}
use Rattle.resb.specs.Inside.Telling.{NamesNone, Names}
use Rattle.resb.specs.Plan.{Refuses}
use Rattle.resb.specs.Entries.{values_in}
use Rattle.resb.specs.Pool.{all_in, bare}
use Rattle.resb.specs.WrittenFiles.{most_of}
use Rattle.resb.specs.Writing.{depth}
use Rattle.resb.specs.declared.draft.Draft.{Draft}
use Rattle.resb.proofs.LaidWords.{refused_still}
use Rattle.resb.proofs.LaidSteps.{length-values}
use Rattle.resb.proofs.PlacedKeys.{names_good}
use Rattle.resb.proofs.Rooms.{row_items, row_levels}
use Rattle.resb.proofs.RowParents.{Split}
use Rattle.resb.proofs.TreeKinds.{IsParent, parent-Table, most_both}

pub parent_deep : (d : Draft) (keys : List (List ℕ)) (row xs : List Resource) (t : Resource) (names : List (List ℕ)) (kept : ℕ) (e : ResbError) → IsParent t xs names → Split d keys row xs kept
    → Refuses (most_of (take (length d.levels.items - kept) (drop kept d.levels.items)) < 8) e → Refuses (HasRoom keys (row ++ t ∷ [])) e
parent_deep d keys row xs t names kept e p s f = refused_still e _ _ (λ (room : HasRoom keys (row ++ t ∷ [])). omega (arith, s.deepest, p.deep, room.shallow, most_both depth row (t ∷ []))) f

-- a row that ends in so many trees has an item and a level for each
not_there : (d : Draft) (count : ℕ) → (length d.laying.items.items ≡ length d.levels.items → length d.laying.items.items < count) → (keys : List (List ℕ)) (row xs : List Resource) → length xs ≡ count → Holds d keys (row ++ xs) → ⊥
not_there d count f keys row xs n h =
    let few = f (row_items d keys (row ++ xs) h ∙ sym (row_levels d keys (row ++ xs) h)) in
    omega (arith, few, n, row_items d keys (row ++ xs) h, length-append row xs)

-- ---- an array

pub array_short : (d : Draft) (count : ℕ) (e : ResbError) → e ≡ NoTree → (length d.laying.items.items ≡ length d.levels.items → length d.laying.items.items < count) → NoArray d count e
array_short d count e is f = record { short = λ keys row lt h. rw is tt; large = λ keys row xs n h. absurd (not_there d count f keys row xs n h) }

pub array_large : (d : Draft) (count kept : ℕ) (e : ResbError) → kept + count ≡ length d.laying.items.items
    → ((keys : List (List ℕ)) (row xs : List Resource) → kept + length xs ≡ length d.laying.items.items → Holds d keys (row ++ xs) → Refuses (HasRoom keys (row ++ r.Array xs ∷ [])) e) → NoArray d count e
array_large d count kept e k f = record { short = λ keys row lt h. absurd (omega (arith, k, lt, row_items d keys row h)); large = λ keys row xs n h. f keys row xs (omega (arith, k, n)) h }

-- ---- a table

pub length-names : (es : List (List ℕ × Resource)) (names : List (List ℕ)) → keys_in es ≡ names → length (values_in es) ≡ length names
length-names es names e = length-values es ∙ sym (length-map es (λ (f : List ℕ × Resource). f.0)) ∙ ap length e

pub names_short : (d : Draft) (names : List (List ℕ)) (e : ResbError) → e ≡ NoTree → (length d.laying.items.items ≡ length d.levels.items → length d.laying.items.items < length names) → NamesNone d names e
names_short d names e is f = record { short = λ keys row lt h. rw is tt; large = λ keys row es n h. absurd (not_there d (length names) f keys row (values_in es) (length-names es names n) h) }

pub names_large : (d : Draft) (names : List (List ℕ)) (kept : ℕ) (e : ResbError) → kept + length names ≡ length d.laying.items.items
    → ((keys : List (List ℕ)) (row : List Resource) (es : List (List ℕ × Resource)) → keys_in es ≡ names → IsParent (r.Table es) (values_in es) names → kept + length (values_in es) ≡ length d.laying.items.items → Holds d keys (row ++ values_in es) → Refuses (HasRoom keys (row ++ r.Table es ∷ [])) e)
    → NamesNone d names e
names_large d names kept e k f = record {
  short = λ keys row lt h. absurd (omega (arith, k, lt, row_items d keys row h));
  large = λ keys row es n h. f keys row es n (rw n at (parent-Table es)) (omega (arith, k, length-names es names n)) h;
}

-- ---- a table whose names are tested

lacks_any : (e : ResbError) (P : Type 0) → Lacks (Unit {0}) e → Lacks P e
lacks_any Memory P h = h
lacks_any NoTree P h = h
lacks_any TooLarge P h = h
lacks_any BadKey P h = absurd (h tt)

refuses_table : (e : ResbError) (good room : Type 0) → Refuses room e → RefusesTable good room e
refuses_table Memory good room h = h
refuses_table NoTree good room h = h
refuses_table TooLarge good room h = h
refuses_table BadKey good room h = absurd h

pub makes_table : {X : Type 0} (old new : Draft) (names : List (List ℕ)) (x : Result X ResbError) → all_in names (bare old.pool.keys.items) ≡ true → distinct names ≡ true → Names old new names x → MakesTable old new names x
makes_table old new names (Ok v) known apart f = λ keys row es e h. f keys row es e (names_good names keys (rw h.0 at known) h.1.good) apart h
makes_table old new names (Err y) known apart f = record {
  short = λ keys row lt h. lacks_any y _ (f.short keys row lt h);
  large = λ keys row es e h. refuses_table y _ _ (f.large keys row es e h);
}

pub bad_names : (d : Draft) (names : List (List ℕ)) → ((keys : List (List ℕ)) (row : List Resource) → Holds d keys row → AreNames keys names → ⊥) → NoTable d names BadKey
bad_names d names f = record { short = λ keys row lt h. f keys row h; large = λ keys row es e h. f keys (row ++ values_in es) h }
