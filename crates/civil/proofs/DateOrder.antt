-- An earlier date has a smaller day number.
use Rattle.std.proofs.Common.{◌≡◌, ℕ, zero, suc, ◌+◌, ◌-◌, ◌<◌, ◌≤◌, inl, inr, sym, arith, ℤ, pos, ◌+ℤ◌, ◌<ℤ◌}
use Rattle.civil.specs.Calendar.{days_in_month, days_of_months, day_of}
use Rattle.civil.specs.CivilDates.{IsDate, IsDateOf}
use Rattle.std.proofs.lemmas.Bool.{cases_lt}
use Rattle.std.proofs.lemmas.Int.{by_lt_z}
use Rattle.civil.specs.Laws.{IsEarlier}
use Rattle.jiff_core.proofs.SignedLemmas.{signed_arith}
use Rattle.civil.proofs.CalendarLemmas.{day_of-is, day_within, months_more, starts_in_order, year_start-next}

-- a month ends before a later one of its year begins
pub month_before : (y : ℤ) (m m' : ℕ) → 1 ≤ m → m < m' → days_of_months y (m - 1) + days_in_month y m ≤ days_of_months y (m' - 1)
unfolding days_of_months
month_before y zero m' h k = absurd (omega arith)
month_before y (suc n) m' h k =
    let index : suc n - 1 ≡ n = omega arith in
    rw index (months_more y (suc n) (m' - 1 - suc n) (m' - 1) (omega arith)).0

-- a date of an earlier year
earlier_year : (y : ℤ) (m d : ℕ) (y' : ℤ) (m' d' : ℕ) → IsDate y m d → y <ℤ y' → day_of y m d <ℤ day_of y' m' d'
earlier_year y m d y' m' d' is h =
    omega (arith, signed_arith, day_of-is y m d, day_of-is y' m' d', is.first_day, day_within y m d is, year_start-next y, starts_in_order (y +ℤ pos 1) y' (omega (arith, signed_arith)))

-- a date of an earlier month of the same year
earlier_month : (y : ℤ) (m d m' d' : ℕ) → IsDate y m d → m < m' → day_of y m d <ℤ day_of y m' d'
earlier_month y m d m' d' is h =
    omega (arith, signed_arith, day_of-is y m d, day_of-is y m' d', is.first_day, is.last_day, month_before y m m' is.first_month h)

-- an earlier day of the same month
earlier_day : (y : ℤ) (m d d' : ℕ) → IsDate y m d → d < d' → day_of y m d <ℤ day_of y m d'
earlier_day y m d d' is h =
    omega (arith, signed_arith, day_of-is y m d, day_of-is y m d', is.first_day)

-- any two dates, by the three cases
pub days_in_order : (y : ℤ) (m d : ℕ) (y' : ℤ) (m' d' : ℕ) → IsDate y m d → IsDate y' m' d' → IsEarlier y m d y' m' d' → day_of y m d <ℤ day_of y' m' d'
days_in_order y m d y' m' d' is is' (inl h) = earlier_year y m d y' m' d' is h
days_in_order y m d y' m' d' is is' (inr h) =
    rw (← h.0) (elim h.1 [
      | inl before ↦ earlier_month y m d m' d' is before
      | inr same ↦ rw (← same.0) (earlier_day y m d d' is same.1)
    ])

-- of two dates of one day number none is earlier
not_earlier : (day y : ℤ) (m d : ℕ) (y' : ℤ) (m' d' : ℕ) → IsDateOf day y m d → IsDateOf day y' m' d' → IsEarlier y m d y' m' d' → ⊥
not_earlier day y m d y' m' d' a b h = omega (arith, signed_arith, a.is, b.is, days_in_order y m d y' m' d' a.exists b.exists h)

-- so they are one date
pub date_once : (day y : ℤ) (m d : ℕ) (y' : ℤ) (m' d' : ℕ) → IsDateOf day y m d → IsDateOf day y' m' d' → (y ≡ y') × (m ≡ m') × (d ≡ d')
date_once day y m d y' m' d' a b =
    let there = not_earlier day y m d y' m' d' a b in
    let back = not_earlier day y' m' d' y m d b a in
    let years : y ≡ y' =
    by_lt_z y y' (λ h. absurd (there (inl h)))
    (λ from. by_lt_z y' y (λ h. absurd (back (inl h))) (λ to. omega (arith, signed_arith, from, to))) in
    let months : m ≡ m' =
    elim (cases_lt m m') [
      | inl h ↦ absurd (there (inr (years, inl h)))
      | inr from ↦ elim (cases_lt m' m) [ inl h ↦ absurd (back (inr (sym years, inl h))) | inr to ↦ omega (arith, from, to) ]
    ] in
    let days : d ≡ d' =
    elim (cases_lt d d') [
      | inl h ↦ absurd (there (inr (years, inr (months, h))))
      | inr from ↦ elim (cases_lt d' d) [ inl h ↦ absurd (back (inr (sym years, inr (sym months, h)))) | inr to ↦ omega (arith, from, to) ]
    ] in
    (years, months, days)
