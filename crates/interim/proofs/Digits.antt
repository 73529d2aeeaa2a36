-- Digits and the numbers that they write.
use Rattle.std.proofs.Common.{◌≡◌, ℕ, ◌+◌, ◌-◌, ◌*◌, List, [], ◌∷◌, ◌++◌, refl}
use Rattle.interim.specs.Characters.{decimal_from}

-- one more digit behind the others
pub decimal_from-append : (n : ℕ) (ds : List ℕ) (d : ℕ) → decimal_from n (ds ++ d ∷ []) ≡ decimal_from n ds * 10 + (d - 48)
decimal_from-append n [] d = refl
decimal_from-append n (x ∷ ds) d = decimal_from-append (n * 10 + (x - 48)) ds d
