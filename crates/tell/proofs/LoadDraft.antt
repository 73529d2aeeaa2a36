-- The draft of the bundle of a large input: its keys, and a row that grows by a tree at a time.
use Rattle.std.proofs.Common.{◌≡◌, ℕ, zero, suc, ◌+◌, ◌<◌, true, List, [], ◌∷◌, ◌++◌, length, map, codes, refl, sym, ap, ◌∙◌, append_assoc, arith}
use Rattle.std.proofs.lemmas.List.{length-append}
use Rattle.resb_tree.specs.Keys.{stands_in}
use Rattle.resb_tree.specs.declared.resource.Resource.TheVariants as r
use Rattle.resb_tree.specs.declared.resource.Resource.{Resource}
use Rattle.resb.specs.DraftRows.{Holds}
use Rattle.resb.specs.declared.draft.Draft.{Draft}
use Rattle.resb.specs.TreeKeys.{keys_met, item_keys, first_keys, key_pool}
use Rattle.resb.specs.KeyLaws.{WalksMeetKeys}
use Rattle.tell.specs.LoadZones.{up_to, zone_name}
use Rattle.tell.specs.Inside.LoadTree.{zone_tree, name_tree, region_tree, load_tree}
use Rattle.tell.proofs.LoadZones.{up_to-map}

texts_keys : WalksMeetKeys → (f : ℕ → List ℕ) (ks : List ℕ) → item_keys (map keys_met (map (λ k. r.Text (f k)) ks)) ≡ []
texts_keys law f [] = refl
texts_keys law f (k ∷ ks) = rw (law.text (f k)) (texts_keys law f ks)

abbrev zone_keys : List ℕ → List (List ℕ)
zone_keys ks = item_keys (map keys_met (map zone_tree ks))

zone_key : WalksMeetKeys → (k : ℕ) → keys_met (zone_tree k) ≡ codes "typeOffsets" ∷ []
zone_key law k = law.table _ ∙ rw (law.integers _) refl

-- a key that was met is not met anew
again : WalksMeetKeys → (seen rest : List (List ℕ)) (ks : List ℕ) → stands_in (codes "typeOffsets") seen ≡ true → first_keys seen (zone_keys ks ++ rest) ≡ first_keys seen rest
again law seen rest [] s = refl
again law seen rest (k ∷ ks) s = rw (zone_key law k, s) (again law seen rest ks s)

abbrev last_keys : List (List ℕ)
last_keys = codes "Names" ∷ codes "Rules" ∷ codes "Regions" ∷ []

load_met : WalksMeetKeys → (n : ℕ) → keys_met (load_tree n) ≡ codes "Zones" ∷ (zone_keys (up_to (λ k. k) n) ++ last_keys)
load_met law n =
    law.table _
    ∙ rw (law.array (up_to zone_tree n), law.array (up_to name_tree n), law.table [], law.array (up_to region_tree n))
    (rw (up_to-map zone_tree n, up_to-map name_tree n, up_to-map region_tree n)
    (rw (texts_keys law zone_name (up_to (λ k. k) n), texts_keys law (λ k. codes "001") (up_to (λ k. k) n)) refl))

pub no_zone_keys : WalksMeetKeys → first_keys [] (codes "Zones" ∷ last_keys) ≡ key_pool (load_tree 0)
no_zone_keys law = sym (ap (λ ks. first_keys [] ks) (load_met law 0))

some_keys : WalksMeetKeys → (ks : List ℕ) → 0 < length ks → first_keys [] (codes "Zones" ∷ codes "typeOffsets" ∷ last_keys) ≡ first_keys [] (codes "Zones" ∷ (zone_keys ks ++ last_keys))
some_keys law [] h = absurd (omega arith)
some_keys law (k ∷ ks) h = rw (zone_key law k, again law (codes "Zones" ∷ codes "typeOffsets" ∷ []) last_keys ks refl) refl

pub length_up_to : {A : Type 0} (f : ℕ → A) (n : ℕ) → length (up_to f n) ≡ n
length_up_to f zero = refl
length_up_to f (suc n) = omega (arith, length_up_to f n, length-append (up_to f n) (f (n + 1) ∷ []))

pub all_keys_met : WalksMeetKeys → (n : ℕ) → 0 < n → first_keys [] (codes "Zones" ∷ codes "typeOffsets" ∷ last_keys) ≡ key_pool (load_tree n)
all_keys_met law n h = some_keys law (up_to (λ k. k) n) (omega (arith, length_up_to (λ k. k) n)) ∙ sym (ap (λ ks. first_keys [] ks) (load_met law n))

-- ---- the row

-- a draft holds so many trees more than it held
abbrev pub Grows : (ℕ → Resource) → Draft → Draft → ℕ → Type 0
Grows f old new n = (keys : List (List ℕ)) (row : List Resource) → Holds old keys row → Holds new keys (row ++ up_to f n)

up_to_next : (f : ℕ → Resource) (n : ℕ) → up_to f n ++ f (n + 1) ∷ [] ≡ up_to f (n + 1)
up_to_next f n = let e : n + 1 ≡ suc n = omega arith in sym (ap (λ (k : ℕ). up_to f k) e)

-- and with the next tree one more
pub grows : (f : ℕ → Resource) (old now new : Draft) (n : ℕ) → Grows f old now n
    → ((keys : List (List ℕ)) (row : List Resource) → Holds now keys row → Holds new keys (row ++ f (n + 1) ∷ []))
    → Grows f old new (n + 1)
grows f old now new n held puts keys row h = rw (← up_to_next f n, ← append_assoc) (puts keys _ (held keys row h))

-- all of them become an array
pub all_grown : (f : ℕ → Resource) (old now new : Draft) (n count : ℕ) → n ≡ count → Grows f old now n
    → ((keys : List (List ℕ)) (row items : List Resource) → length items ≡ count → Holds now keys (row ++ items) → Holds new keys (row ++ r.Array items ∷ []))
    → (keys : List (List ℕ)) (row : List Resource) → Holds old keys row → Holds new keys (row ++ r.Array (up_to f count) ∷ [])
all_grown f old now new n count all held puts keys row h = puts keys row _ (length_up_to f count) (rw all at held keys row h)
