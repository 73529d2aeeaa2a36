-- Tables whose seconds are compared one by one.
use Rattle.std.proofs.Common.{◌≡◌, ℕ, zero, suc, ◌<◌, ◌&&◌, Bool, true, false, List, [], ◌∷◌, length, Some, ℤ, map, refl, arith}
use Rattle.std.specs.Prelude.{slice_get, option_map}
use Rattle.std.specs.Ordering.{int_eq}
use Rattle.std.specs.Cmp.Lexicographic.{pointwise}
use Rattle.std.proofs.lemmas.Int.{ints}
use Rattle.timeline.specs.declared.offset.Transition.{Transition}

-- not as long
pub other_length : (xs ys : List Transition) → (length xs ≡ length ys → ⊥) → pointwise int_eq (map (λ (e : Transition). e.since) xs) (map (λ (e : Transition). e.since) ys) ≡ false
other_length [] [] h = absurd (h refl)
other_length [] (y ∷ ys) h = refl
other_length (x ∷ xs) [] h = refl
other_length (x ∷ xs) (y ∷ ys) h = by (int_eq x.since y.since) refl (other_length xs ys (λ same. h (omega (arith, same))))
  where
    by : (b : Bool) → int_eq x.since y.since ≡ b → pointwise int_eq (map (λ (e : Transition). e.since) xs) (map (λ (e : Transition). e.since) ys) ≡ false
        → (int_eq x.since y.since && pointwise int_eq (map (λ (e : Transition). e.since) xs) (map (λ (e : Transition). e.since) ys)) ≡ false
    by true is rest = rw (is, rest) refl
    by false is rest = rw is refl

-- another second at a place
pub other_second : (xs ys : List Transition) (n : ℕ) (s t : ℤ) → option_map (λ (e : Transition). e.since) (slice_get xs n) ≡ Some s → option_map (λ (e : Transition). e.since) (slice_get ys n) ≡ Some t → (s ≡ t → ⊥)
    → pointwise int_eq (map (λ (e : Transition). e.since) xs) (map (λ (e : Transition). e.since) ys) ≡ false
other_second [] ys n s t at_s at_t differ = cc
other_second (x ∷ xs) [] n s t at_s at_t differ = cc
other_second (x ∷ xs) (y ∷ ys) zero s t at_s at_t differ =
    let first : x.since ≡ s = cc in
    let second : y.since ≡ t = cc in
    let apart : int_eq x.since y.since ≡ false = grind (arith, ints, first, second, differ) in
    rw apart refl
other_second (x ∷ xs) (y ∷ ys) (suc n) s t at_s at_t differ = by (int_eq x.since y.since) refl (other_second xs ys n s t at_s at_t differ)
  where
    by : (b : Bool) → int_eq x.since y.since ≡ b → pointwise int_eq (map (λ (e : Transition). e.since) xs) (map (λ (e : Transition). e.since) ys) ≡ false
        → (int_eq x.since y.since && pointwise int_eq (map (λ (e : Transition). e.since) xs) (map (λ (e : Transition). e.since) ys)) ≡ false
    by true is rest = rw (is, rest) refl
    by false is rest = rw is refl

-- the same seconds at the places below a number
abbrev pub SameBelow : List Transition → List Transition → ℕ → Type 0
SameBelow xs ys to = (n : ℕ) → n < to → option_map (λ (e : Transition). e.since) (slice_get xs n) ≡ option_map (λ (e : Transition). e.since) (slice_get ys n)

pub all_same : (xs ys : List Transition) (to : ℕ) → length xs ≡ length ys → to ≡ length xs → SameBelow xs ys to → pointwise int_eq (map (λ (e : Transition). e.since) xs) (map (λ (e : Transition). e.since) ys) ≡ true
all_same [] [] to long is same = refl
all_same [] (y ∷ ys) to long is same = absurd (omega (arith, long))
all_same (x ∷ xs) [] to long is same = absurd (omega (arith, long))
all_same (x ∷ xs) (y ∷ ys) to long is same =
    let here : Some x.since ≡ Some y.since = same 0 (omega (arith, is)) in
    let first : x.since ≡ y.since = cc here in
    let rest = all_same xs ys (length xs) (omega (arith, long)) refl (λ n lt. same (suc n) (omega (arith, is, lt))) in
    let equal : int_eq x.since y.since ≡ true = grind (arith, ints, first) in
    rw (equal, rest) refl
