-- The year of a second, by its day.
use Rattle.std.proofs.Common.{◌≡◌, ◌⊎◌, inl, inr, ℤ, pos, negsuc, ◌+ℤ◌, ◌*ℤ◌, ◌<ℤ◌, ◌≤ℤ◌, refl, arith}
use Rattle.std.proofs.lemmas.Int.{ints}
use Rattle.std.specs.Int.{int_div_euclid}
use Rattle.civil.specs.Calendar.{year_start}
use Rattle.civil.specs.CivilDates.{HoldsDay}
use Rattle.jiff_core.proofs.SignedLemmas.{int_div_euclid-parts}
use Rattle.timeline.specs.WallPromises.{IsOfYear}
use Rattle.timeline.specs.Inside.YearEntries.{IsNearestYear, inside, before, after}
use Rattle.timeline.proofs.Years.{years_rise, epoch}
use Rattle.timeline.proofs.Entries.{below_or_not}

-- a time of day on a day of a year
of_day : (y day t : ℤ) → year_start y ≤ℤ day → day <ℤ year_start (y +ℤ pos 1) → (pos 86400 *ℤ day) ≤ℤ t → t <ℤ (pos 86400 *ℤ (day +ℤ pos 1)) → IsOfYear y t
of_day y day t from to low high = record { from = omega (arith, ints, from, low); to = omega (arith, ints, to, high) }

-- ---- the nearest year of 32 bits

begun : (t day : ℤ) → day ≡ int_div_euclid t (pos 86400) → (pos 86400 *ℤ day) ≤ℤ t
begun t day is = let parts = int_div_euclid-parts t 86400 (omega arith) in let low = parts.0 in omega (arith, ints, is, low)

not_over : (t day : ℤ) → day ≡ int_div_euclid t (pos 86400) → t <ℤ (pos 86400 *ℤ (day +ℤ pos 1))
not_over t day is = let parts = int_div_euclid-parts t 86400 (omega arith) in let high = parts.1 in omega (arith, ints, is, high)

pub nearest_inside : (t day y : ℤ) → day ≡ int_div_euclid t (pos 86400) → HoldsDay y day → IsNearestYear y t
nearest_inside t day y is holds = inside (of_day y day t holds.begun holds.not_over (begun t day is) (not_over t day is))

-- the days of the years of 32 bits
abbrev pub IsIn32 : ℤ → Type 0
IsIn32 day = (year_start (negsuc 2147483647) ≤ℤ day) × (day <ℤ year_start (pos 2147483648))

pub nearest_before : (t day : ℤ) → day ≡ int_div_euclid t (pos 86400) → day <ℤ pos 0 → (IsIn32 day → ⊥) → IsNearestYear (negsuc 2147483647) t
nearest_before t day is negative outside = by (below_or_not day (year_start (negsuc 2147483647)))
  where
    by : (day <ℤ year_start (negsuc 2147483647)) ⊎ (year_start (negsuc 2147483647) ≤ℤ day) → IsNearestYear (negsuc 2147483647) t
    by (inl early) = let end = not_over t day is in before refl (omega (arith, ints, early, end))
    by (inr from) =
        let up = years_rise (pos 1970) (pos 2147483648) (omega (arith, ints)) in
        absurd (outside (from, omega (arith, ints, negative, up, epoch)))

pub nearest_after : (t day : ℤ) → day ≡ int_div_euclid t (pos 86400) → pos 0 ≤ℤ day → (IsIn32 day → ⊥) → IsNearestYear (pos 2147483647) t
nearest_after t day is positive outside = by (below_or_not day (year_start (pos 2147483648)))
  where
    by : (day <ℤ year_start (pos 2147483648)) ⊎ (year_start (pos 2147483648) ≤ℤ day) → IsNearestYear (pos 2147483647) t
    by (inl early) =
        let up = years_rise (negsuc 2147483647) (pos 1970) (omega (arith, ints)) in
        absurd (outside (omega (arith, ints, positive, up, epoch), early))
    by (inr late) =
        let up = years_rise (pos 2147483647) (pos 2147483648) (omega (arith, ints)) in
        let start = begun t day is in
        after refl (omega (arith, ints, late, up, start))
