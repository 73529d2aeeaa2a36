-- The words of a bundle, and when there are none.
use Rattle.std.proofs.Common.{◌≡◌, ℕ, ◌+◌, ◌*◌, ◌≤◌, true, false, List, [], ◌∷◌, ◌++◌, length, Some, refl, arith}
use Rattle.std.specs.Prelude.{map, nat_lt, Result, Ok, Err, IfOk, OnOk, IfErr, IsErrAnd}
use Rattle.std.proofs.lemmas.Bool.{both_ways, le-ltb, ltb-false, or_parts, true_from_ne_false}
use Rattle.std.proofs.lemmas.List.{length-append}
use Rattle.resb_tree.specs.declared.error.ResbError.{ResbError}
use Rattle.resb_tree.specs.declared.error.ResbError.TheVariants.{Memory, NoTree, TooLarge, BadKey}
use Rattle.resb_tree.specs.declared.resource.Resource.{Resource}
use Rattle.resb.specs.Pool.{place_of, words_end}
use Rattle.resb.specs.DraftRows.{HasRoom}
use Rattle.resb.specs.Drafts.{Unwritten}
use Rattle.resb.specs.Inside.Pooling.{pooled, Fills}
use Rattle.resb.specs.Plan.{Refuses, most_words}
use Rattle.resb.specs.Inside.Laying.{Fits}
use Rattle.resb_tree.specs.Weight.{weight}
use Rattle.resb.specs.Packing.{pack_bytes, most_unit}
use Rattle.resb.specs.TreeKeys.{pool_bytes, key_pool, keys_met}
use Rattle.resb.specs.Writing.{places_of, depth, has_wide_integer, is_too_large, writing, Writes}
use Rattle.resb.specs.WrittenFiles.{most_of, most_entries, header, written_body, written}
use Rattle.resb.specs.BadKeys.{has_bad_key, all_keys}
use Rattle.resb.specs.LaidTrees.{laid}
use Rattle.resb.proofs.GoodKeys.{keys_good}
use Rattle.resb.proofs.LaidWords.{fits_cons, fits_none}
use Rattle.resb.proofs.PoolReads.{Each, each_met, met_in_pool, place_low, pool_keys}
use Rattle.resb.proofs.Pools.{pooled_is, pool_first}

-- ---- the words

-- the body word behind the keys
abbrev keys_end : Resource → ℕ
keys_end t = words_end (key_pool t)

pub written_is : (t : Resource) → written t ≡ (let root = laid t (place_of (key_pool t)) (keys_end t) in let end = keys_end t + length root.0 in header ++ ((root.1 ∷ 7 ∷ keys_end t ∷ end ∷ end ∷ most_entries t ∷ 0 ∷ keys_end t ∷ []) ++ pack_bytes (pool_bytes (key_pool t)) ++ root.0))
unfolding written written_body
written_is t = refl

pub length-written : (t : Resource) → length (written t) ≡ 6 + (keys_end t + length (laid t (place_of (key_pool t)) (keys_end t)).0)
length-written t =
    let root = laid t (place_of (key_pool t)) (keys_end t) in
    let keys = pack_bytes (pool_bytes (key_pool t)) in
    rw (written_is t) (omega (arith, length-append keys root.0))

-- ---- each key that is met stands in the pool

most_low : (f : List ℕ → ℕ) (n : ℕ) (ks : List (List ℕ)) → Each (λ k. f k ≤ n) ks → most_of (map f ks) ≤ n
most_low f n [] h = omega arith
most_low f n (k ∷ ks) h = omega (arith, h.0, most_low f n ks h.1)

near_all : (t : Resource) → most_of (map (place_of (key_pool t)) (keys_met t)) ≤ most_of (places_of (key_pool t) 32)
near_all t = most_low _ _ (keys_met t) (each_met _ (keys_met t) (λ key there. place_low (key_pool t) 32 key (met_in_pool key [] (keys_met t) there refl)))

-- ---- what is too large

-- the limits that a tree keeps whose words are written
pub record Kept (t : Resource) : Type 0 where
  pub words : length (written t) ≤ 1048576
  pub shallow : depth t ≤ 8
  pub near : most_of (places_of (key_pool t) 32) ≤ most_unit
  pub counts : most_entries t ≤ most_unit
  pub small : has_wide_integer t ≡ false
  pub light : weight t ≤ 8 * length (written t)

pub kept : (t : Resource) → is_too_large t ≡ false → Kept t
unfolding is_too_large
kept t h =
    let f = or_parts _ _ h in
    let e = or_parts _ _ f.0 in
    let d = or_parts _ _ e.0 in
    let c = or_parts _ _ d.0 in
    let b = or_parts _ _ c.0 in
    record { words = ltb-false _ _ b.0; shallow = ltb-false _ _ b.1; near = ltb-false _ _ c.1; counts = ltb-false _ _ d.1; small = e.1; light = ltb-false _ _ f.1 }

pub keeps : (t : Resource) → Kept t → is_too_large t ≡ false
unfolding is_too_large
keeps t k =
    rw (le-ltb 1048576 (length (written t)) k.words, le-ltb 8 (depth t) k.shallow, le-ltb most_unit (most_of (places_of (key_pool t) 32)) k.near, le-ltb most_unit (most_entries t) k.counts, k.small, le-ltb (8 * length (written t)) (weight t) k.light) refl

not_kept : (t : Resource) → (Kept t → ⊥) → is_too_large t ≡ true
not_kept t never = true_from_ne_false (is_too_large t) (λ fits. never (kept t fits))

-- a row of the tree alone has room
pub kept_room : (t : Resource) → Kept t → HasRoom (key_pool t) (t ∷ [])
kept_room t k =
    let f : Fits t (place_of (key_pool t)) (keys_end t) = record {
      room = omega (arith, k.words, length-written t);
      near = omega (arith, k.near, near_all t);
      counts = k.counts;
      small = k.small;
    } in
    record {
      fits = fits_cons t [] (place_of (key_pool t)) (keys_end t) f (fits_none (place_of (key_pool t)) _ f.room);
      shallow = omega (arith, k.shallow);
      light = omega (arith, k.light, k.words);
    }

too_large : (t : Resource) → has_bad_key t ≡ false → is_too_large t ≡ true → writing t ≡ Err TooLarge
too_large t good large = rw (good, large) refl

-- ---- why there are no words

pub pool_told : {X : Type 0} (view : X → List (List ℕ)) (t : Resource) (e : ResbError) {Y : Type 0} (words : Y → List ℕ) → has_bad_key t ≡ false → Fills view (Err e) (pooled [] (keys_met t)) → Writes words (Err e) (writing t)
pool_told view t Memory words good h = h
pool_told view t NoTree words good h = absurd h
pool_told view t TooLarge words good h =
    let none = rw (pooled_is [] (keys_met t)) at h in
    let far : nat_lt most_unit (most_of (places_of (key_pool t) 32)) ≡ true = grind arith in
    too_large t good (not_kept t (λ k. both_ways _ (le-ltb most_unit (most_of (places_of (key_pool t) 32)) k.near) far))
pool_told view t BadKey words good h = absurd h

pub refusal_told : (t : Resource) (e : ResbError) {Y : Type 0} (words : Y → List ℕ) (P : Type 0) → has_bad_key t ≡ false → (Kept t → P) → Refuses P e → Writes words (Err e) (writing t)
refusal_told t Memory words P good f h = h
refusal_told t NoTree words P good f h = absurd h
refusal_told t TooLarge words P good f h = too_large t good (not_kept t (λ k. h (f k)))
refusal_told t BadKey words P good f h = absurd h

-- ---- the pool

pub pool_good : (t : Resource) (pool : List (List ℕ)) → has_bad_key t ≡ false → pooled [] (keys_met t) ≡ Some pool → all_keys pool ≡ true
pool_good t pool good h = rw (pool_first (keys_met t) pool h).0 (pool_keys [] (keys_met t) (keys_good (depth t) t (omega arith) good))

pub over_end : (t : Resource) (pool : List (List ℕ)) → pooled [] (keys_met t) ≡ Some pool → Kept t → words_end pool ≤ most_words
over_end t pool h k = rw (pool_first (keys_met t) pool h).0 (omega (arith, k.words, length-written t))

-- ---- what is answered

pub error_on : {X : Type 0} (view : X → List ℕ) (x : Result X ResbError) (e : ResbError) (plan : Result (List ℕ) ResbError) → IsErrAnd x (λ y. y ≡ e) → Writes view (Err e) plan → Writes view x plan
error_on view (Ok v) e plan h was = absurd h
error_on view (Err y) e plan h was = rw h was

unwritten_told : (t : Resource) (e : ResbError) {Y : Type 0} (words : Y → List ℕ) → has_bad_key t ≡ false → Unwritten (key_pool t) (t ∷ []) e → Writes words (Err e) (writing t)
unwritten_told t Memory words good h = h
unwritten_told t NoTree words good h = absurd (h refl)
unwritten_told t TooLarge words good h = too_large t good (not_kept t (λ k. omega (arith, h.1, k.light, length-written t, length-append (laid t (place_of (key_pool t)) (keys_end t)).0 [])))
unwritten_told t BadKey words good h = absurd h

-- what is answered for a row of a tree whose limits are kept where it is not too heavy
pub answer_told : {X : Type 0} (view : X → List ℕ) (t : Resource) (x : Result X ResbError) → has_bad_key t ≡ false → (weight t ≤ 8 * length (written t) → Kept t) → IfOk x (λ v. view v ≡ written t) → OnOk x (weight t ≤ 8 * length (written t)) → IfErr x (Unwritten (key_pool t) (t ∷ [])) → Writes view x (writing t)
answer_told view t (Ok v) good kept words light unwritten = rw (good, keeps t (kept light), words) refl
answer_told view t (Err e) good kept words light unwritten = unwritten_told t e view good unwritten
