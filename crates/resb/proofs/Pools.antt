-- A pool of keys: where a key of it begins, and what it is once all keys are met.
use Rattle.std.proofs.Common.{◌≡◌, ℕ, zero, suc, ◌+◌, ◌≤◌, Bool, true, false, cond, List, [], ◌∷◌, ◌++◌, length, ◌⊎◌, inl, inr, Option, Some, None, refl, ap, sym, ◌∙◌, Bor, max, append_assoc, arith}
use Rattle.std.specs.Prelude.{nat_lt, is_some, slice_get}
use Rattle.std.specs.Option.{option_copied}
use Rattle.std.specs.BTreeMap.{BTreeMap, get_by, UpdatesBy}
use Rattle.std.specs.Cmp.Lexicographic.{slice_cmp}
use Rattle.std.specs.Ordering.{nat_cmp}
use Rattle.std.specs.Str.{bytes_eq}
use Rattle.std.proofs.lemmas.Bool.{cases_Bool, false≢true, true≢false, lt-ltb, ltb-false, ltb-true}
use Rattle.std.proofs.lemmas.Cmp.{nat_list_eq_equiv}
use Rattle.std.proofs.lemmas.List.{append-nil, length-append, map-append}
use Rattle.std.proofs.lemmas.Map.Text.{btree_map_updates_str}
use Rattle.std.proofs.lemmas.Slice.Eq.{bytes_eq-Decides}
use Rattle.resb_tree.specs.Keys.{stands_in}
use Rattle.resb_tree.specs.Options.{◌>>=◌}
use Rattle.resb.specs.Packing.{most_unit}
use Rattle.resb.specs.Pool.{bare, place_of}
use Rattle.resb.specs.Inside.Pooling.{place_told, added, pooled, pool_end}
use Rattle.resb.specs.TreeKeys.{key_place, pool_bytes, first_keys}
use Rattle.resb.specs.Writing.{places_of}
use Rattle.resb.specs.WrittenFiles.{most_of}

-- ---- what holds of `if b then true else r`

pub if_parts : (b r : Bool) → cond b true r ≡ false → (b ≡ false) × (r ≡ false)
if_parts true r h = absurd (true≢false h)
if_parts false r h = (refl, h)

pub if_cases : (b r : Bool) → cond b true r ≡ true → (b ≡ true) ⊎ (r ≡ true)
if_cases true r h = inl refl
if_cases false r h = inr h

pub if_right : (b r : Bool) → r ≡ true → cond b true r ≡ true
if_right true r h = refl
if_right false r h = h

-- ---- where a key begins

abbrev pub told_at : List (List ℕ) → ℕ → List ℕ → Option ℕ
told_at keys at key = cond (stands_in key keys) (Some (key_place keys at key)) None

pub behind : (keys : List (List ℕ)) (k : List ℕ) (at : ℕ) → at + length k + 1 + length (pool_bytes keys) ≡ at + length (pool_bytes (k ∷ keys))
behind keys k at = omega (arith, length-append k (0 ∷ pool_bytes keys))

-- where a key is not in the pool, it would begin behind it
pub key_place-absent : (keys : List (List ℕ)) (at : ℕ) (q : List ℕ) → stands_in q keys ≡ false → key_place keys at q ≡ at + length (pool_bytes keys)
key_place-absent [] at q h = omega arith
key_place-absent (k ∷ keys) at q h =
    let parts = if_parts (bytes_eq q k) (stands_in q keys) h in
    rw (nat_list_eq_equiv.symm k q, parts.0, key_place-absent keys (at + length k + 1) q parts.1) (behind keys k at)

-- a key that is put behind the others
told_push : (keys : List (List ℕ)) (key q : List ℕ) (at : ℕ) → stands_in key keys ≡ false → told_at (keys ++ key ∷ []) at q ≡ cond (bytes_eq key q) (Some (at + length (pool_bytes keys))) (told_at keys at q)
told_push [] key q at h = let z : at + 0 ≡ at = omega arith in rw (z, nat_list_eq_equiv.symm q key) (grind arith)
told_push (k ∷ keys) key q at h =
    let parts = if_parts (bytes_eq key k) (stands_in key keys) h in
    elim (cases_Bool (bytes_eq k q)) [
      | inl e ↦
          let same : k ≡ q = (bytes_eq-Decides k q).0 e in
          let other : bytes_eq key q ≡ false = rw (← same) parts.0 in
          rw (nat_list_eq_equiv.symm q k, e, other) refl
      | inr e ↦ rw (nat_list_eq_equiv.symm q k, e, ← behind keys k at) (told_push keys key q (at + length k + 1) parts.1)
    ]

pub unplaced_key : (keys : List (List ℕ)) (q : List ℕ) → (let none : Option ℕ = None in none ≡ place_told keys q) → stands_in q keys ≡ false
unplaced_key keys q told = grind arith

pub not_there : (o : Option (Bor ℕ)) (keys : List (List ℕ)) (q : List ℕ) → option_copied o ≡ place_told keys q → is_some o ≡ false → stands_in q keys ≡ false
not_there None keys q told h = unplaced_key keys q told
not_there (Some x) keys q told h = absurd (true≢false h)

-- the map with a key more
pub told_more : (keys : List (Bor (List ℕ))) (key : Bor (List ℕ)) (m n : BTreeMap (Bor (List ℕ)) ℕ) (end : ℕ) → ((q : List ℕ) → get_by (λ k. slice_cmp nat_cmp q k.now) m ≡ place_told (bare keys) q)
    → end ≡ pool_end (bare keys) → stands_in key.now (bare keys) ≡ false → UpdatesBy (λ x y. slice_cmp nat_cmp x.now y.now) (λ k. slice_cmp nat_cmp key.now k.now) m n (Some end)
    → (q : List ℕ) → get_by (λ k. slice_cmp nat_cmp q k.now) n ≡ place_told (bare (keys ++ key ∷ [])) q
told_more keys key m n end before at_end absent updates q =
    btree_map_updates_str key.now m n (Some end) updates q ∙ rw (map-append, before q, at_end) (sym (told_push (bare keys) key.now q 32 absent))

bytes_push : (keys : List (List ℕ)) (key : List ℕ) → length (pool_bytes (keys ++ key ∷ [])) ≡ length (pool_bytes keys) + length key + 1
bytes_push [] key = omega (arith, length-append key (0 ∷ []))
bytes_push (k ∷ keys) key = omega (arith, bytes_push keys key, length-append k (0 ∷ pool_bytes keys), length-append k (0 ∷ pool_bytes (keys ++ key ∷ [])))

pool_end_push : (keys : List (List ℕ)) (key : List ℕ) → pool_end (keys ++ key ∷ []) ≡ pool_end keys + length key + 1
pool_end_push keys key = omega (arith, bytes_push keys key)

pub end_more : (keys : List (Bor (List ℕ))) (key : Bor (List ℕ)) (end : ℕ) → end ≡ pool_end (bare keys) → end + length key.now + 1 ≡ pool_end (bare (keys ++ key ∷ []))
end_more keys key end e = rw map-append (omega (arith, pool_end_push (bare keys) key.now, e))

-- ---- all keys

max_below : (m a b : ℕ) → nat_lt m a ≡ false → nat_lt m (max a b) ≡ nat_lt m b
max_below m a b h = grind arith

abbrev pub all_pooled : List (List ℕ) → List (List ℕ) → Option (List (List ℕ))
all_pooled keys ks = cond (nat_lt most_unit (most_of (places_of (first_keys keys ks) (pool_end keys)))) None (Some (keys ++ first_keys keys ks))

pooled_new : (keys ks : List (List ℕ)) (k : List ℕ) → pooled (keys ++ k ∷ []) ks ≡ all_pooled (keys ++ k ∷ []) ks → (b : Bool) → nat_lt most_unit (pool_end keys) ≡ b
    → (let none : Option (List (List ℕ)) = None in cond b none (Some (keys ++ k ∷ [])) >>= λ more. pooled more ks) ≡ cond (nat_lt most_unit (max (pool_end keys) (most_of (places_of (first_keys (keys ++ k ∷ []) ks) (pool_end keys + length k + 1))))) None (Some (keys ++ k ∷ first_keys (keys ++ k ∷ []) ks))
pooled_new keys ks k more true e = rw (lt-ltb most_unit (max (pool_end keys) (most_of (places_of (first_keys (keys ++ k ∷ []) ks) (pool_end keys + length k + 1)))) (let far = ltb-true _ _ e in omega (arith, far))) refl
pooled_new keys ks k more false e =
    rw (max_below most_unit (pool_end keys) (most_of (places_of (first_keys (keys ++ k ∷ []) ks) (pool_end keys + length k + 1))) e, ← pool_end_push keys k, more) (ap (λ all. cond (nat_lt most_unit (most_of (places_of (first_keys (keys ++ k ∷ []) ks) (pool_end (keys ++ k ∷ []))))) None (Some all)) (append_assoc keys (k ∷ []) (first_keys (keys ++ k ∷ []) ks)))

-- the pool has each key once, where each place fits
pub pooled_is : (keys ks : List (List ℕ)) → pooled keys ks ≡ all_pooled keys ks
unfolding pooled
pooled_is keys [] = ap (λ (all : List (List ℕ)). Some all) (sym (append-nil keys))
pooled_is keys (k ∷ ks) = elim (cases_Bool (stands_in k keys)) [
  | inl old ↦ rw old (pooled_is keys ks)
  | inr new ↦ rw new (pooled_new keys ks k (pooled_is (keys ++ k ∷ []) ks) (nat_lt most_unit (pool_end keys)) refl)
]

-- a pool that was filled has each key once, and each place fits
pub pool_first : (ks p : List (List ℕ)) → pooled [] ks ≡ Some p → (p ≡ first_keys [] ks) × (most_of (places_of p 32) ≤ most_unit)
pool_first ks p h =
    let found : all_pooled [] ks ≡ Some p = sym (pooled_is [] ks) ∙ h in
    let is : p ≡ first_keys [] ks = grind arith in
    let near : nat_lt most_unit (most_of (places_of (first_keys [] ks) 32)) ≡ false = grind arith in
    (is, rw is (ltb-false _ _ near))

pub placed : (keys : List (List ℕ)) (q : List ℕ) (p : ℕ) → Some p ≡ place_told keys q → p ≡ place_of keys q
placed keys q p told = grind arith

pub unplaced : (keys : List (List ℕ)) (q : List ℕ) (end : ℕ) → end ≡ pool_end keys → (let none : Option ℕ = None in none ≡ place_told keys q) → end ≡ place_of keys q
unplaced keys q end e told = e ∙ sym (key_place-absent keys 32 q (unplaced_key keys q told))

pub ruleset placing = (placed, unplaced)

-- ---- keys that are met again

pub pooled-append : (keys xs ys : List (List ℕ)) → pooled keys (xs ++ ys) ≡ (pooled keys xs >>= λ more. pooled more ys)
unfolding pooled
pooled-append keys [] ys = refl
pooled-append keys (x ∷ xs) ys = elim (added keys x) as (λ o. (o >>= λ more. pooled more (xs ++ ys)) ≡ (o >>= (λ more. pooled more xs) >>= λ more. pooled more ys)) [
  | None ↦ refl
  | Some more ↦ pooled-append more xs ys
]

-- keys of which the first part has one pool with others
pub pooled_on : (old new keys rest : List (List ℕ)) (all : Option (List (List ℕ))) → pooled [] new ≡ pooled [] (old ++ keys) → pooled [] (old ++ (keys ++ rest)) ≡ all → pooled [] (new ++ rest) ≡ all
pooled_on old new keys rest all e h =
    pooled-append [] new rest ∙ ap (λ (o : Option (List (List ℕ))). o >>= λ more. pooled more rest) e ∙ sym (pooled-append [] (old ++ keys) rest) ∙ rw append_assoc h

stands_on : (xs ys : List (List ℕ)) (q : List ℕ) → stands_in q xs ≡ true → stands_in q (xs ++ ys) ≡ true
stands_on [] ys q h = absurd (false≢true h)
stands_on (x ∷ xs) ys q h = elim (if_cases (bytes_eq q x) (stands_in q xs) h) [
  | inl e ↦ rw e refl
  | inr r ↦ if_right (bytes_eq q x) (stands_in q (xs ++ ys)) (stands_on xs ys q r)
]

stands_behind : (keys : List (List ℕ)) (q : List ℕ) → stands_in q (keys ++ q ∷ []) ≡ true
stands_behind [] q = rw ((bytes_eq-Decides q q).1 refl) refl
stands_behind (k ∷ keys) q = if_right (bytes_eq q k) (stands_in q (keys ++ q ∷ [])) (stands_behind keys q)

-- a key that was met is no first key
first_again : (seen xs : List (List ℕ)) (q : List ℕ) → (stands_in q seen ≡ true) ⊎ (stands_in q xs ≡ true) → first_keys seen (xs ++ q ∷ []) ≡ first_keys seen xs
first_again seen [] q h = elim h [
  | inl there ↦ rw there refl
  | inr none ↦ absurd (false≢true none)
]
first_again seen (x ∷ xs) q h =
    let later : (q ≡ x) ⊎ ((stands_in q seen ≡ true) ⊎ (stands_in q xs ≡ true)) = elim h [
      | inl there ↦ inr (inl there)
      | inr there ↦ elim (if_cases (bytes_eq q x) (stands_in q xs) there) [
        | inl e ↦ inl ((bytes_eq-Decides q x).0 e)
        | inr r ↦ inr (inr r)
      ]
    ] in
    elim (cases_Bool (stands_in x seen)) [
      | inl old ↦ rw old (first_again seen xs q (elim later [
        | inl e ↦ inl (rw e old)
        | inr r ↦ r
      ]))
      | inr new ↦ rw new (ap (λ ks. x ∷ ks) (first_again (seen ++ x ∷ []) xs q (elim later [
        | inl e ↦ inl (rw e (stands_behind seen x))
        | inr r ↦ elim r [
          | inl there ↦ inl (stands_on seen (x ∷ []) q there)
          | inr l ↦ inr l
        ]
      ])))
    ]

-- a key that was met, met again, leaves the pool as it is
pub pooled_again : (xs : List (List ℕ)) (q : List ℕ) → stands_in q xs ≡ true → pooled [] xs ≡ pooled [] (xs ++ q ∷ [])
pooled_again xs q h = rw (pooled_is [] xs, pooled_is [] (xs ++ q ∷ []), first_again [] xs q (inr h)) refl

pub stands_at : (xs : List (Bor (List ℕ))) (i : ℕ) (x : Bor (List ℕ)) (q : List ℕ) → Some x ≡ slice_get xs i → x.now ≡ q → stands_in q (bare xs) ≡ true
stands_at [] i x q e h = absurd (let t : Some x ≡ (let none : Option (Bor (List ℕ)) = None in none) = e in cc)
stands_at (y ∷ xs) zero x q e h = let k : x ≡ y = cc in rw (← h, k, (bytes_eq-Decides y.now y.now).1 refl) refl
stands_at (y ∷ xs) (suc i) x q e h = if_right (bytes_eq q y.now) (stands_in q (bare xs)) (stands_at xs i x q e h)
