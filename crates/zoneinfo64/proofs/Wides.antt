-- Seconds of 64 bits in words.
use Rattle.std.proofs.Common.{◌≡◌, ℕ, ◌/◌, ◌%◌, List, [], ◌∷◌, length, Some, None, refl, arith}
use Rattle.zoneinfo64.specs.Inside.ListSteps.{wide}
use Rattle.zoneinfo64.specs.ZoneLists.{wide_seconds}

pub wide_even : (words : List ℕ) → length words % 2 ≡ 0 → wide_seconds words ≡ Some (wide words)
wide_even [] even = refl
wide_even (a ∷ []) even = absurd (omega arith)
wide_even (a ∷ b ∷ words) even = rw (wide_even words (omega arith)) refl

pub wide_odd : (words : List ℕ) → length words % 2 ≡ 1 → wide_seconds words ≡ None
wide_odd [] odd = absurd (omega arith)
wide_odd (a ∷ []) odd = refl
wide_odd (a ∷ b ∷ words) odd = rw (wide_odd words (omega arith)) refl

pub length-wide : (words : List ℕ) → length (wide words) ≡ length words / 2
length-wide [] = refl
length-wide (a ∷ []) = refl
length-wide (a ∷ b ∷ words) = let rest = length-wide words in omega (arith, rest)
