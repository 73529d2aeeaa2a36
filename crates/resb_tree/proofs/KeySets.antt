-- A set of the keys that come later tells whether a key stands once.
use Rattle.std.proofs.Common.{◌≡◌, ℕ, zero, suc, ◌-◌, ◌<◌, ◌≤◌, Bool, true, false, not, cond, List, [], ◌∷◌, length, drop, get_or, drop-cons, refl, ap, sym, ◌∙◌, Bor, arith}
use Rattle.std.specs.declared.cmp.Ordering.{Ordering}
use Rattle.std.specs.Ordering.{is_eq, nat_cmp}
use Rattle.std.specs.Cmp.Lexicographic.{slice_cmp}
use Rattle.std.specs.List.{list_any}
use Rattle.std.specs.Str.{bytes_eq}
use Rattle.std.proofs.Math.Bool.{and-false}
use Rattle.std.proofs.lemmas.Bool.{not-false, not-true}
use Rattle.std.proofs.lemmas.Cmp.{nat_list_eq_equiv}
use Rattle.std.proofs.lemmas.Map.Text.{is_eq-slice_cmp}
use Rattle.resb_tree.specs.Keys.{stands_in, distinct, keys_in}

abbrev pub by_bytes : Bor (List ℕ) → Bor (List ℕ) → Ordering
by_bytes x y = slice_cmp nat_cmp x.now y.now

has_is : (ks : List (Bor (List ℕ))) (q : Bor (List ℕ)) → list_any (λ k. is_eq (by_bytes q k)) ks ≡ list_any (λ k. bytes_eq q.now k.now) ks
has_is [] q = refl
has_is (k ∷ ks) q = rw (is_eq-slice_cmp q.now k.now, has_is ks q) refl

keys_from : {A : Type 0} (es : List (List ℕ × A)) (at : ℕ) (d : List ℕ × A) → 0 < at → at ≤ length es → keys_in (drop (at - 1) es) ≡ (get_or es (at - 1) d).0 ∷ keys_in (drop at es)
keys_from es at d pos le =
    let lt : at - 1 < length es = omega arith in
    let s : suc (at - 1) ≡ at = omega arith in
    ap keys_in (drop-cons es (at - 1) d lt ∙ ap (λ n. get_or es (at - 1) d ∷ drop n es) s)

-- keys that are not distinct from a place on are not distinct
distinct_drop : {A : Type 0} (n : ℕ) (es : List (List ℕ × A)) → distinct (keys_in (drop n es)) ≡ false → distinct (keys_in es) ≡ false
distinct_drop zero es h = h
distinct_drop (suc n) [] h = h
distinct_drop (suc n) (e ∷ es) h = rw (distinct_drop n es h) (and-false (not (stands_in e.0 (keys_in es))))

-- a key that the set has stands twice
pub stands_twice : {A : Type 0} (es : List (List ℕ × A)) (at : ℕ) (d : List ℕ × A) (key : Bor (List ℕ)) (ks : List (Bor (List ℕ))) (added : Bool) → 0 < at → at ≤ length es
    → key.now ≡ (get_or es (at - 1) d).0 → list_any (λ k. bytes_eq key.now k.now) ks ≡ stands_in key.now (keys_in (drop at es))
    → added ≡ not (list_any (λ k. is_eq (by_bytes key k)) ks) → added ≡ false → false ≡ distinct (keys_in es)
stands_twice es at d key ks added pos le e has told old =
    let there : stands_in key.now (keys_in (drop at es)) ≡ true = sym has ∙ sym (has_is ks key) ∙ not-false _ (sym told ∙ old) in
    let twice : distinct (keys_in (drop (at - 1) es)) ≡ false = rw (keys_from es at d pos le, ← e, there) refl in
    sym (distinct_drop (at - 1) es twice)

-- a key that the set does not have stands once
pub stands_once : {A : Type 0} (es : List (List ℕ × A)) (at : ℕ) (d : List ℕ × A) (key : Bor (List ℕ)) (ks : List (Bor (List ℕ))) (added : Bool) → 0 < at → at ≤ length es
    → key.now ≡ (get_or es (at - 1) d).0 → list_any (λ k. bytes_eq key.now k.now) ks ≡ stands_in key.now (keys_in (drop at es)) → distinct (keys_in (drop at es)) ≡ true
    → added ≡ not (list_any (λ k. is_eq (by_bytes key k)) ks) → added ≡ true → distinct (keys_in (drop (at - 1) es)) ≡ true
stands_once es at d key ks added pos le e has apart told new =
    let absent : stands_in key.now (keys_in (drop at es)) ≡ false = sym has ∙ sym (has_is ks key) ∙ not-true _ (sym told ∙ new) in
    rw (keys_from es at d pos le, ← e, absent, apart) refl

-- the set with one more key
pub gains : {A : Type 0} (es : List (List ℕ × A)) (at : ℕ) (d : List ℕ × A) (key q : Bor (List ℕ)) (ks more : List (Bor (List ℕ))) → 0 < at → at ≤ length es
    → key.now ≡ (get_or es (at - 1) d).0 → list_any (λ k. bytes_eq q.now k.now) ks ≡ stands_in q.now (keys_in (drop at es))
    → list_any (λ k. is_eq (by_bytes q k)) more ≡ cond (is_eq (by_bytes key q)) true (list_any (λ k. is_eq (by_bytes q k)) ks)
    → list_any (λ k. bytes_eq q.now k.now) more ≡ stands_in q.now (keys_in (drop (at - 1) es))
gains es at d key q ks more pos le e has grown =
    let same : is_eq (by_bytes key q) ≡ bytes_eq q.now key.now = is_eq-slice_cmp key.now q.now ∙ nat_list_eq_equiv.symm key.now q.now in
    sym (has_is more q) ∙ grown ∙ rw (same, has_is ks q, has, keys_from es at d pos le, ← e) refl
