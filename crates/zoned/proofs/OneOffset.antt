-- In a zone of one offset each wall second is shown once.
use Rattle.std.proofs.Common.{◌≡◌, ℤ, ◌-ℤ◌, arith}
use Rattle.std.proofs.lemmas.Int.{ints}
use Rattle.civil.specs.Shown.{IsShownOnce}

pub shown_once : (off : ℤ → ℤ) (c w : ℤ) → ((t : ℤ) → off t ≡ c) → IsShownOnce off w (w -ℤ c)
shown_once off c w h = record {
  shows = let e : off (w -ℤ c) ≡ c = h (w -ℤ c) in omega (arith, ints);
  only = λ u s. let e : off u ≡ c = h u in omega (arith, ints);
}
