-- Keys where they stand, byte after byte.
use Rattle.std.proofs.Common.{◌≡◌, ◌≢◌, ℕ, zero, suc, ◌+◌, ◌-◌, ◌*◌, ◌<◌, ◌≤◌, Bool, true, false, not, ◌&&◌, cond, ltb, eqb, List, [], ◌∷◌, ◌++◌, length, drop, get_or, drop-cons, Option, Some, None, refl, ap, sym, ◌∙◌, inl, inr, append_assoc, add-one, zero-add, arith}
use Rattle.std.specs.Str.{bytes_eq}
use Rattle.std.proofs.lemmas.Bool.{ne_eqb}
use Rattle.std.proofs.lemmas.Bool.Decides.{leb_tells, eqb_tells, nat_tests}
use Rattle.std.proofs.lemmas.List.{map-append, append-nil, drop_all}
use Rattle.resb_tree.specs.Words.{run, byte_in}
use Rattle.resb_tree.specs.Keys.{distinct, keys_in}
use Rattle.resb_tree.specs.Options.{◌>>=◌}
use Rattle.resb_tree.specs.Bodies.{Body}
use Rattle.resb_tree.specs.Tables.{key_from, key_at}
use Rattle.resb_tree.specs.Inside.KeyPlaces.{key_there, IsKey, keys_there}
use Rattle.resb_tree.proofs.Held.{held_first, held_next}
use Rattle.resb_tree.proofs.Runs.{run_push, run_grow}

key_rest : (byte : ℕ → ℕ) (place more : ℕ) (key : List ℕ) → key_from byte place (suc more) ≡ Some key → byte place ≢ 0
    → (rest : List ℕ) × ((key_from byte (place + 1) more ≡ Some rest) × (byte place ∷ rest ≡ key))
unfolding key_from
key_rest byte place more key h nz = by (ltb (byte place) 128) (key_from byte (place + 1) more) (rw (ne_eqb (byte place) 0 nz) at h)
  where
    by : (small : Bool) (rest : Option (List ℕ)) → cond small (rest >>= λ bs. Some (byte place ∷ bs)) None ≡ Some key → (bs : List ℕ) × ((rest ≡ Some bs) × (byte place ∷ bs ≡ key))
    by true (Some bs) e = let same : byte place ∷ bs ≡ key = cc in (bs, (refl, same))
    by true None e = cc
    by false rest e = cc

key_done : (byte : ℕ → ℕ) (place more : ℕ) → byte place ≡ 0 → key_from byte place (suc more) ≡ Some []
unfolding key_from
key_done byte place more z = rw z refl

no_key : (byte : ℕ → ℕ) (place : ℕ) (key : List ℕ) → key_from byte place 0 ≡ Some key → ⊥
unfolding key_from
no_key byte place key h = cc

-- a key begins before the keys' end
pub key_low : (b : Body) (place : ℕ) → IsKey b place → place < 4 * b.keys_end
unfolding key_at
key_low b place h = elim (leb_tells (4 * b.keys_end) place) [
  | inl past ↦ let none : 4 * b.keys_end - place ≡ 0 = omega (arith, past.1) in absurd (no_key (byte_in b.words) place _ (rw none at h))
  | inr low ↦ omega (arith, low.1)
]

-- a zero byte ends a key
pub key_ends : (b : Body) (place : ℕ) → IsKey b place → byte_in b.words place ≡ 0 → key_there b place ≡ []
unfolding key_at
key_ends b place h z =
    let low = key_low b place h in
    let k : 4 * b.keys_end - place ≡ suc (4 * b.keys_end - (place + 1)) = omega (arith, low) in
    rw (k, key_done (byte_in b.words) place (4 * b.keys_end - (place + 1)) z) refl

key_more : (b : Body) (place : ℕ) → IsKey b place → byte_in b.words place ≢ 0 → (rest : List ℕ) × ((key_at b (place + 1) ≡ Some rest) × (byte_in b.words place ∷ rest ≡ key_there b place))
unfolding key_at
key_more b place h nz =
    let low = key_low b place h in
    let k : 4 * b.keys_end - place ≡ suc (4 * b.keys_end - (place + 1)) = omega (arith, low) in
    key_rest (byte_in b.words) place (4 * b.keys_end - (place + 1)) (key_there b place) (rw (← k) h) nz

-- another byte stands before the rest of its key
pub key_next : (b : Body) (place : ℕ) → IsKey b place → byte_in b.words place ≢ 0 → IsKey b (place + 1)
unfolding key_at
key_next b place h nz = rw (key_more b place h nz).1.0 refl

pub key_whole : (b : Body) (place : ℕ) → IsKey b place → byte_in b.words place ≢ 0 → key_there b place ≡ byte_in b.words place ∷ key_there b (place + 1)
unfolding key_at
key_whole b place h nz = let more = key_more b place h nz in rw more.1.0 (sym more.1.1)

-- a key by its first byte
key_form : (b : Body) (place : ℕ) → IsKey b place → key_there b place ≡ cond (eqb (byte_in b.words place) 0) [] (byte_in b.words place ∷ key_there b (place + 1))
key_form b place h = elim (eqb_tells (byte_in b.words place) 0) [
  | inl z ↦ rw (z.0, key_ends b place h z.1) refl
  | inr nz ↦ rw nz.0 (key_whole b place h nz.1)
]

-- two keys are equal where their first bytes and their rests are
pub keys_next : (b : Body) (one other : ℕ) → IsKey b one → IsKey b other → bytes_eq (key_there b one) (key_there b other)
    ≡ (eqb (byte_in b.words one) (byte_in b.words other) && cond (eqb (byte_in b.words one) 0) true (bytes_eq (key_there b (one + 1)) (key_there b (other + 1))))
keys_next b one other h g = rw (key_form b one h, key_form b other g) (by (byte_in b.words one) (byte_in b.words other) (key_there b (one + 1)) (key_there b (other + 1)))
  where
    by : (x y : ℕ) (xs ys : List ℕ) → bytes_eq (cond (eqb x 0) [] (x ∷ xs)) (cond (eqb y 0) [] (y ∷ ys)) ≡ (eqb x y && cond (eqb x 0) true (bytes_eq xs ys))
    by x y xs ys = elim (eqb_tells x 0) [
      | inl z ↦ elim (eqb_tells y 0) [ inl w ↦ rw (z.1, w.1) refl | inr w ↦ rw (z.1, w.0, ne_eqb 0 y (λ e. w.1 (sym e))) refl ]
      | inr z ↦ elim (eqb_tells y 0) [ inl w ↦ rw (w.1, z.0) refl | inr w ↦ rw (z.0, w.0) refl ]
    ]

-- a key and the rest of some bytes
pub bytes_next : (b : Body) (at i : ℕ) (bytes : List ℕ) → IsKey b at → i < length bytes → bytes_eq (key_there b at) (drop i bytes)
    ≡ cond (eqb (byte_in b.words at) 0) false (eqb (byte_in b.words at) (get_or bytes i 0) && bytes_eq (key_there b (at + 1)) (drop (i + 1) bytes))
bytes_next b at i bytes h lt = rw (key_form b at h, drop-cons bytes i 0 lt, add-one i) (by (eqb (byte_in b.words at) 0))
  where
    by : (ends : Bool) → bytes_eq (cond ends [] (byte_in b.words at ∷ key_there b (at + 1))) (get_or bytes i 0 ∷ drop (suc i) bytes)
        ≡ cond ends false (eqb (byte_in b.words at) (get_or bytes i 0) && bytes_eq (key_there b (at + 1)) (drop (suc i) bytes))
    by true = refl
    by false = refl

-- behind the bytes, the key must end
pub bytes_end : (b : Body) (at i : ℕ) (bytes : List ℕ) → IsKey b at → length bytes ≤ i → bytes_eq (key_there b at) (drop i bytes) ≡ eqb (byte_in b.words at) 0
bytes_end b at i bytes h le = rw (drop_all i bytes le, key_form b at h) (by (eqb (byte_in b.words at) 0))
  where
    by : (ends : Bool) → bytes_eq (cond ends [] (byte_in b.words at ∷ key_there b (at + 1))) [] ≡ ends
    by true = refl
    by false = refl

-- what compares keys, and what copies one
pub ruleset key_steps = (held_first, held_next, key_low, key_next, keys_next, bytes_next, bytes_end, nat_tests)

pub ruleset key_bytes = (key_low, key_ends, key_next, key_whole, run_grow, append_assoc, append-nil)

-- ---- the keys of a table's entries

-- one more key was copied
pub keys_more : {A : Type 0} (copies : List (List ℕ × A)) (x : List ℕ × A) (b : Body) (at : ℕ → ℕ × ℕ) (k : ℕ) → keys_in copies ≡ keys_there b (run at 0 k) → x.0 ≡ key_there b (at k).0
    → keys_in (copies ++ x ∷ []) ≡ keys_there b (run at 0 (k + 1))
keys_more copies x b at k before same = rw (run_push at 0 k, zero-add) (simp map-append (rw (before, same) refl))

pub distinct_short : (b : Body) (at : ℕ → ℕ × ℕ) (count : ℕ) → count < 2 → true ≡ distinct (keys_there b (run at 0 count))
distinct_short b at zero lt = refl
distinct_short b at (suc zero) lt = refl
distinct_short b at (suc (suc n)) lt = absurd (omega arith)
