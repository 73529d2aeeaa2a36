-- The calendar repeats after 400 years, which are 146097 days; and the year of a day, by cycles of 400 years.
use Rattle.std.proofs.Common.{◌≡◌, ◌⊎◌, ℕ, suc, ◌+◌, ◌*◌, ◌/◌, ◌%◌, ◌<◌, ◌≤◌, ◌==◌, refl, ap, arith, ℤ, pos, negsuc, ◌+ℤ◌, ◌-ℤ◌, ◌*ℤ◌, unsigned_abs}
use Rattle.std.proofs.lemmas.Int.{ints}
use Rattle.std.proofs.lemmas.Bool.Decides.{nat_tests}
use Rattle.civil.specs.Calendar.{is_leap_year, year_start}
use Rattle.civil.specs.CivilDates.{HoldsDay}
use Rattle.civil.specs.Inside.LeapDays.{leap_days_to}
use Rattle.jiff_core.proofs.SignedLemmas.{signed_arith}
use Rattle.civil.proofs.CalendarLemmas.{year_start-closed}

-- ---- 400 years

leap_days_to-400 : (x : ℤ) → leap_days_to (x +ℤ pos 400) ≡ leap_days_to x +ℤ pos 97
unfolding leap_days_to
leap_days_to-400 x = omega (arith, signed_arith)

pub year_start-400 : (y : ℤ) → year_start (y +ℤ pos 400) ≡ year_start y +ℤ pos 146097
year_start-400 y =
    let x = y -ℤ pos 1 in
    omega (arith, signed_arith, leap_days_to-400 x, year_start-closed y x (omega (arith, signed_arith)), year_start-closed (y +ℤ pos 400) (x +ℤ pos 400) (omega (arith, signed_arith)))

same_rest4 : (m a : ℕ) → (m + a ≡ 400) ⊎ (m + 400 ≡ a) → (m % 4 == 0) ≡ (a % 4 == 0)
same_rest4 m a h = grind (arith, nat_tests)

same_rest100 : (m a : ℕ) → (m + a ≡ 400) ⊎ (m + 400 ≡ a) → (m % 100 == 0) ≡ (a % 100 == 0)
same_rest100 m a h = grind (arith, nat_tests)

same_rest400 : (m a : ℕ) → (m + a ≡ 400) ⊎ (m + 400 ≡ a) → (m % 400 == 0) ≡ (a % 400 == 0)
same_rest400 m a h = grind (arith, nat_tests)

abs_shift : (n : ℕ) → (unsigned_abs (negsuc n +ℤ pos 400) + suc n ≡ 400) ⊎ (unsigned_abs (negsuc n +ℤ pos 400) + 400 ≡ suc n)
abs_shift n = grind (arith, ints)

pub is_leap_year-400 : (y : ℤ) → is_leap_year (y +ℤ pos 400) ≡ is_leap_year y
is_leap_year-400 (pos n) =
    let a : ((n + 400) % 4 == 0) ≡ (n % 4 == 0) = ap (λ m. m == 0) (omega arith) in
    let b : ((n + 400) % 100 == 0) ≡ (n % 100 == 0) = ap (λ m. m == 0) (omega arith) in
    let c : ((n + 400) % 400 == 0) ≡ (n % 400 == 0) = ap (λ m. m == 0) (omega arith) in
    rw (a, b, c)
is_leap_year-400 (negsuc n) =
    let h = abs_shift n in
    let m = unsigned_abs (negsuc n +ℤ pos 400) in
    rw (same_rest4 m (suc n) h, same_rest100 m (suc n) h, same_rest400 m (suc n) h)

-- ---- the year of a day

-- the leap days of 400 q + n years
pub leap_cycle : (x q : ℤ) (n : ℕ) → x ≡ pos 400 *ℤ q +ℤ pos n → n ≤ 400 → leap_days_to x ≡ pos 97 *ℤ q +ℤ pos (n / 4 + n / 400) -ℤ pos (n / 100)
unfolding leap_days_to
leap_cycle x q n e h = omega (arith, signed_arith)

-- a year that is found by whole cycles of 400 years
pub year_in_cycle : (day q y : ℤ) (n r : ℕ) → day +ℤ pos 719162 ≡ pos 146097 *ℤ q +ℤ pos r → y ≡ pos 400 *ℤ q +ℤ pos n +ℤ pos 1 → n < 400
    → 365 * n + n / 4 ≤ r + n / 100 → r + (n + 1) / 100 < 365 * (n + 1) + (n + 1) / 4 + (n + 1) / 400 → HoldsDay y day
year_in_cycle day q y n r e f h low high =
    let x = pos 400 *ℤ q +ℤ pos n in
    let z = pos 400 *ℤ q +ℤ pos (n + 1) in record {
      begun = omega (arith, signed_arith, year_start-closed y x (omega (arith, signed_arith)), leap_cycle x q n refl (omega arith));
      not_over = omega (arith, signed_arith, year_start-closed (y +ℤ pos 1) z (omega (arith, signed_arith)), leap_cycle z q (n + 1) refl (omega arith));
    }
