-- Units and bytes have the sizes of their types.
use Rattle.std.proofs.Common.{◌≡◌, ℕ, suc, true, List, [], ◌∷◌, get_or, Fits, w8, refl}
use Rattle.std.proofs.lemmas.Bool.{and_from, lt-ltb}
use Rattle.std.specs.Simd.Lanes.{all_below}
use Rattle.std.proofs.Math.Facts.{Fits-lt-pow}
use mir.Syntax.{w16}

pub units_typed : (xs : List ℕ) → ((i : ℕ) → Fits w16 (get_or xs i 0)) → all_below 65536 xs ≡ true
units_typed [] h = refl
units_typed (x ∷ xs) h = and_from _ _ (lt-ltb x 65536 (Fits-lt-pow (h 0))) (units_typed xs (λ i. h (suc i)))

pub bytes_typed : (xs : List ℕ) → ((i : ℕ) → Fits w8 (get_or xs i 0)) → all_below 256 xs ≡ true
bytes_typed [] h = refl
bytes_typed (x ∷ xs) h = and_from _ _ (lt-ltb x 256 (Fits-lt-pow (h 0))) (bytes_typed xs (λ i. h (suc i)))
