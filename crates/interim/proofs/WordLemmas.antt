-- Words that are too short for what they are compared with.
use Rattle.std.proofs.Common.{◌≡◌, ℕ, ◌<◌, List, [], ◌∷◌, length, Option, None, refl, arith}
use Rattle.std.proofs.Math.Bool.{and-false}
use Rattle.interim.specs.Words.{month_of, weekday_of}

-- a word of less than three letters names no month
pub month_of_short : (word : List ℕ) → length word < 3 → let none : Option ℕ = None in none ≡ month_of word
unfolding month_of
month_of_short [] h = refl
month_of_short (a ∷ []) h = simp and-false
month_of_short (a ∷ b ∷ []) h = simp and-false
month_of_short (a ∷ b ∷ c ∷ rest) h = absurd (omega arith)

-- nor a day of the week
pub weekday_of_short : (word : List ℕ) → length word < 3 → let none : Option ℕ = None in none ≡ weekday_of word
unfolding weekday_of
weekday_of_short [] h = refl
weekday_of_short (a ∷ []) h = simp and-false
weekday_of_short (a ∷ b ∷ []) h = simp and-false
weekday_of_short (a ∷ b ∷ c ∷ rest) h = absurd (omega arith)
