-- The keys of a table, gone through one after the other.
use Rattle.std.proofs.Common.{◌≡◌, ℕ, ◌+◌, ◌<◌, true, false, List, [], ◌∷◌, ◌++◌, length, drop, get_or, Option, Some, None, inl, inr, refl, ◌∙◌, Bor, append_assoc, arith}
use Rattle.std.specs.Prelude.{map, sum_by}
use Rattle.std.specs.Str.{bytes_eq}
use Rattle.std.proofs.lemmas.Bool.{and_parts, and_from, false≢true}
use Rattle.std.proofs.lemmas.List.{at_drop_more}
use Rattle.std.proofs.lemmas.List.Sums.{sum_by-cons}
use Rattle.std.proofs.lemmas.Slice.Eq.{bytes_eq-Decides}
use Rattle.resb_tree.specs.Keys.{stands_in}
use Rattle.resb.specs.Pool.{all_in, bare}
use Rattle.resb.specs.Inside.Pooling.{place_told}
use Rattle.resb.specs.BadKeys.{is_key, all_keys}
use Rattle.resb.specs.WrittenFiles.{most_of}
use Rattle.resb.proofs.Pools.{if_cases, unplaced_key}

pub behind_is : (keys : List (Bor (List ℕ))) (d : Bor (List ℕ)) (i : ℕ) → i < length keys → bare (drop i keys) ≡ (get_or keys i d).now ∷ bare (drop (i + 1) keys)
behind_is keys d i lt = at_drop_more bare keys i d lt

pub units_past : (places : List ℕ → ℕ) (keys : List (Bor (List ℕ))) (d : Bor (List ℕ)) (i : ℕ) → i < length keys → (units new all : List ℕ) (place : ℕ) → place ≡ places (get_or keys i d).now → new ≡ units ++ place ∷ []
    → units ++ map places (bare (drop i keys)) ≡ all → new ++ map places (bare (drop (i + 1) keys)) ≡ all
units_past places keys d i lt units new all place p n h =
    let k = (get_or keys i d).now in
    let rest = map places (bare (drop (i + 1) keys)) in
    let g : units ++ (places k ∷ rest) ≡ all = rw (behind_is keys d i lt) at h in
    rw (n, p) (append_assoc units (places k ∷ []) rest ∙ g)

pub sum_past : (keys : List (Bor (List ℕ))) (d : Bor (List ℕ)) (i : ℕ) → i < length keys → sum_by length (bare (drop i keys)) ≡ length (get_or keys i d).now + sum_by length (bare (drop (i + 1) keys))
sum_past keys d i lt = at_drop_more (λ ks. sum_by length (bare ks)) keys i d lt ∙ sum_by-cons length (get_or keys i d).now (bare (drop (i + 1) keys))

pub most_past : (places : List ℕ → ℕ) (keys : List (Bor (List ℕ))) (d : Bor (List ℕ)) (i : ℕ) → i < length keys → most_of (map places (bare (drop i keys))) ≡ most_of (map places ((get_or keys i d).now ∷ bare (drop (i + 1) keys)))
most_past places keys d i lt = at_drop_more (λ ks. most_of (map places (bare ks))) keys i d lt

-- ---- keys of a pool

pub unknown : (keys : List (Bor (List ℕ))) (d : Bor (List ℕ)) (i : ℕ) → i < length keys → (pool : List (List ℕ)) → (let none : Option ℕ = None in none ≡ place_told pool (get_or keys i d).now) → false ≡ all_in (bare (drop i keys)) pool
unknown keys d i lt pool told =
    let q = (get_or keys i d).now in
    let out = unplaced_key pool q told in
    rw (behind_is keys d i lt, out) refl

pub known : (keys : List (Bor (List ℕ))) (d : Bor (List ℕ)) (i : ℕ) → i < length keys → (pool : List (List ℕ)) (place : ℕ) → Some place ≡ place_told pool (get_or keys i d).now → all_in (bare (drop i keys)) pool ≡ all_in (bare (drop (i + 1) keys)) pool
known keys d i lt pool place told =
    let q = (get_or keys i d).now in
    let there : stands_in q pool ≡ true = grind arith in
    rw (behind_is keys d i lt, there) refl

key_of_pool : (keys : List (List ℕ)) (q : List ℕ) → stands_in q keys ≡ true → all_keys keys ≡ true → is_key q ≡ true
key_of_pool [] q s g = absurd (false≢true s)
key_of_pool (k ∷ keys) q s g =
    let both = and_parts _ _ g in
    elim (if_cases (bytes_eq q k) (stands_in q keys) s) [
      | inl e ↦ rw ((bytes_eq-Decides q k).0 e) both.0
      | inr r ↦ key_of_pool keys q r both.1
    ]

-- names that are among good keys are good
pub names_good : (names pool : List (List ℕ)) → all_in names pool ≡ true → all_keys pool ≡ true → all_keys names ≡ true
names_good [] pool a g = refl
names_good (k ∷ names) pool a g = let both = and_parts _ _ a in and_from _ _ (key_of_pool pool k both.0 g) (names_good names pool both.1 g)
