-- Later years begin later, and 1970 begins on day 0.
use Rattle.std.proofs.Common.{◌≡◌, ℕ, zero, suc, ◌+◌, ◌-◌, ◌≤◌, ℤ, pos, negsuc, ◌≤ℤ◌, arith}
use Rattle.civil.specs.Calendar.{days_from_zero, days_to_zero, year_start, year_second}
use Rattle.jiff_core.proofs.SignedLemmas.{signed_arith}

-- what no step lowers rises
rises : (f : ℕ → ℕ) → ((n : ℕ) → f n ≤ f (suc n)) → (m k n : ℕ) → m + k ≡ n → f m ≤ f n
rises f up m zero n e = let same : m ≡ n = omega arith in rw same (omega arith)
rises f up m (suc k) zero e = absurd (omega arith)
rises f up m (suc k) (suc n) e = omega (arith, rises f up m k n (omega arith), up n)

starts_rise : (x y : ℤ) → x ≤ℤ y → year_start x ≤ℤ year_start y
unfolding year_start days_from_zero days_to_zero
starts_rise (pos m) (pos n) le = omega (arith, signed_arith, rises days_from_zero (λ i. omega arith) m (n - m) n (omega (arith, signed_arith)))
starts_rise (pos m) (negsuc n) le = absurd (omega (arith, signed_arith))
starts_rise (negsuc m) (pos n) le = omega (arith, signed_arith)
starts_rise (negsuc m) (negsuc n) le = omega (arith, signed_arith, rises days_to_zero (λ i. omega arith) (suc n) (m - n) (suc m) (omega (arith, signed_arith)))

pub years_rise : (x y : ℤ) → x ≤ℤ y → year_second x ≤ℤ year_second y
years_rise x y le = omega (arith, signed_arith, starts_rise x y le)

pub epoch : year_start (pos 1970) ≡ pos 0
unfolding year_start
epoch = omega (arith, signed_arith)
