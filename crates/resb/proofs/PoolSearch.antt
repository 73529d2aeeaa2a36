-- Keys that are looked for one after the other, and in the first keys of a pool.
use Rattle.std.proofs.Common.{◌≡◌, ℕ, zero, suc, ◌+◌, ◌<◌, ◌≤◌, true, false, List, [], ◌∷◌, length, take, drop, get_or, inl, inr, Option, Some, None, refl, Bor, arith}
use Rattle.std.proofs.lemmas.Bool.{cases_Bool}
use Rattle.std.proofs.lemmas.Cmp.{nat_list_eq_equiv}
use Rattle.std.proofs.lemmas.List.{at_drop_more, drop_more}
use Rattle.std.specs.Str.{bytes_eq}
use Rattle.resb.specs.Pool.{bare}
use Rattle.resb.specs.Inside.Pooling.{pool_end}
use Rattle.resb.specs.TreeKeys.{pool_bytes}
use Rattle.resb.proofs.Pools.{told_at, behind}

-- the key that is looked for stands here
pub told_there : (keys : List (Bor (List ℕ))) (d : Bor (List ℕ)) (q : List ℕ) (at i : ℕ) → i < length keys → bytes_eq (get_or keys i d).now q ≡ true → Some at ≡ told_at (bare (drop i keys)) at q
told_there keys d q at i lt e =
    rw (drop_more keys i d lt, nat_list_eq_equiv.symm q (get_or keys i d).now, e) refl

-- it does not, and is looked for behind
pub told_past : (keys : List (Bor (List ℕ))) (d : Bor (List ℕ)) (q : List ℕ) (at i : ℕ) → i < length keys → bytes_eq (get_or keys i d).now q ≡ false → told_at (bare (drop i keys)) at q ≡ told_at (bare (drop (i + 1) keys)) (at + (length (get_or keys i d).now + 1)) q
told_past keys d q at i lt e =
    let p : at + (length (get_or keys i d).now + 1) ≡ at + length (get_or keys i d).now + 1 = omega arith in
    rw (drop_more keys i d lt, nat_list_eq_equiv.symm q (get_or keys i d).now, e, p) refl

pub end_past : (keys : List (Bor (List ℕ))) (d : Bor (List ℕ)) (at i : ℕ) → i < length keys → at + length (pool_bytes (bare (drop i keys))) ≡ at + (length (get_or keys i d).now + 1) + length (pool_bytes (bare (drop (i + 1) keys)))
end_past keys d at i lt =
    let k = (get_or keys i d).now in
    let rest = bare (drop (i + 1) keys) in
    let e : at + length (pool_bytes (bare (drop i keys))) ≡ at + length (pool_bytes (k ∷ rest)) = at_drop_more (λ xs. at + length (pool_bytes (bare xs))) keys i d lt in
    omega (arith, e, behind rest k at)

-- ---- the first keys of a pool

-- what is told of the first keys is told of all
pub told_take : (n : ℕ) (keys : List (Bor (List ℕ))) (at : ℕ) (q : List ℕ) (p : ℕ) → Some p ≡ told_at (bare (take n keys)) at q → Some p ≡ told_at (bare keys) at q
told_take zero keys at q p h = absurd (let f : Some p ≡ (let none : Option ℕ = None in none) = h in cc)
told_take (suc n) [] at q p h = h
told_take (suc n) (k ∷ keys) at q p h =
    elim (cases_Bool (bytes_eq q k.now)) [
      | inl e ↦ rw (nat_list_eq_equiv.symm k.now q, e) (rw (nat_list_eq_equiv.symm k.now q, e) at h)
      | inr e ↦ rw (nat_list_eq_equiv.symm k.now q, e) (told_take n keys (at + length k.now + 1) q p (rw (nat_list_eq_equiv.symm k.now q, e) at h))
    ]

bytes_take : (n : ℕ) (keys : List (Bor (List ℕ))) → length (pool_bytes (bare (take n keys))) ≤ length (pool_bytes (bare keys))
bytes_take zero keys = omega arith
bytes_take (suc n) [] = omega arith
bytes_take (suc n) (k ∷ keys) = omega (arith, bytes_take n keys, behind (bare (take n keys)) k.now 0, behind (bare keys) k.now 0)

pub end_take : (n : ℕ) (keys : List (Bor (List ℕ))) → pool_end (bare (take n keys)) ≤ pool_end (bare keys)
end_take n keys = omega (arith, bytes_take n keys)
