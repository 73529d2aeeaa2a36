-- Each day number of the calendar is that of a date: the year that holds the day, its month, its day.
use Rattle.std.proofs.Common.{◌≡◌, ℕ, zero, suc, ◌+◌, ◌-◌, ◌<◌, ◌≤◌, inl, inr, ap, subst, ◌∙◌, arith, ℤ, pos, negsuc, unsigned_abs, ◌+ℤ◌, ◌-ℤ◌, ◌<ℤ◌, ◌≤ℤ◌}
use Rattle.std.proofs.lemmas.Bool.{cases_lt}
use Rattle.std.proofs.lemmas.Int.{by_lt_z}
use Rattle.civil.specs.Calendar.{days_in_year, days_of_months, year_start, day_of}
use Rattle.civil.specs.CivilDates.{HoldsDay, IsDate, IsDay, IsDateOf, min_year, max_year}
use Rattle.civil.specs.Inside.Years.{IsYear}
use Rattle.jiff_core.proofs.SignedLemmas.{signed_arith, one_part}
use Rattle.civil.proofs.CalendarLemmas.{year_of_months, day_of-is, first_start, last_start, year_start-next, starts_in_order, days_in_year_bound}

-- a year that holds the day
record IsYearOf (day first end y : ℤ) : Type 0 where
  from_first : first ≤ℤ y
  before_end : y <ℤ end
  begun : year_start y ≤ℤ day
  not_over : day <ℤ year_start (y +ℤ pos 1)

-- one of k years holds a day that lies in them
year_of_day : (day first : ℤ) (k : ℕ) → year_start first ≤ℤ day → day <ℤ year_start (first +ℤ pos k) → (y : ℤ) × IsYearOf day first (first +ℤ pos k) y
year_of_day day first zero begun over =
    let same : first +ℤ pos 0 ≡ first = omega (arith, signed_arith) in
    absurd (omega (arith, signed_arith, rw same at over))
year_of_day day first (suc k) begun over =
    let next : first +ℤ pos (suc k) ≡ (first +ℤ pos k) +ℤ pos 1 = omega (arith, signed_arith) in
    by_lt_z day (year_start (first +ℤ pos k))
    (λ below.
    let found = year_of_day day first k begun below in (
      found.0,
      record {
        from_first = found.1.from_first;
        before_end = omega (arith, signed_arith, found.1.before_end);
        begun = found.1.begun;
        not_over = found.1.not_over;
      },
    ))
    (λ from. (
      first +ℤ pos k,
      record {
        from_first = omega (arith, signed_arith);
        before_end = omega (arith, signed_arith);
        begun = from;
        not_over = rw next at over;
      },
    ))

-- one of the first n months holds a day of the year that lies in them
month_of_day : (y : ℤ) (r n : ℕ) → r < days_of_months y n → (m : ℕ) × (m < n) × (days_of_months y m ≤ r) × (r < days_of_months y (suc m))
unfolding days_of_months
month_of_day y r zero h = absurd (omega arith)
month_of_day y r (suc n) h =
    elim (cases_lt r (days_of_months y n)) [
      | inl below ↦
          let found = month_of_day y r n below in
          (found.0, omega (arith, found.1), found.2, found.3)
      | inr from ↦ (n, omega arith, from, h)
    ]

-- a day of a month, counted from 0, as a date
date_in_month : (day y : ℤ) (r m : ℕ) → negsuc 262142 ≤ℤ y → y ≤ℤ pos 262142 → m < 12 → days_of_months y m ≤ r → r < days_of_months y (suc m) → day ≡ year_start y +ℤ pos r
    → IsDate y (suc m) (suc (r - days_of_months y m)) × (day_of y (suc m) (suc (r - days_of_months y m)) ≡ day)
unfolding days_of_months
date_in_month day y r m first last h from below is =
    let back : suc m - 1 ≡ m = omega arith in (
      record {
        first_year = first;
        last_year = last;
        first_month = omega arith;
        last_month = omega arith;
        first_day = omega arith;
        last_day = omega arith;
      },
      omega (arith, signed_arith, rw back at (day_of-is y (suc m) (suc (r - days_of_months y m)))),
    )

-- the year of a day of the calendar is one of the calendar
pub year_in_calendar : (y day : ℤ) → HoldsDay y day → IsDay day → IsYear y
year_in_calendar y day holds is = record {
  first = by_lt_z y min_year
      (λ before. absurd (omega (arith, signed_arith, holds.not_over, is.first, first_start, starts_in_order (y +ℤ pos 1) min_year (omega (arith, signed_arith)))))
      (λ from. from);
  last = by_lt_z max_year y
      (λ after. absurd (omega (arith, signed_arith, holds.begun, is.last, last_start, starts_in_order (pos 262143) y (omega (arith, signed_arith)))))
      (λ to. to);
}

-- the date of a day number, by its year, the days of the year before it, and its month
pub date_by_parts : (day y : ℤ) (r m before : ℕ) → IsDay day → HoldsDay y day → day ≡ year_start y +ℤ pos r → 1 ≤ m → m ≤ 12
    → before ≡ days_of_months y (m - 1) → days_of_months y (m - 1) ≤ r → r < days_of_months y m → IsDateOf day y m (r - before + 1)
date_by_parts day y r zero before is holds e low high f from to = absurd (omega arith)
date_by_parts day y r (suc n) before is holds e low high f from to =
    let index : suc n - 1 ≡ n = omega arith in
    let same : before ≡ days_of_months y n = f ∙ ap (days_of_months y) index in
    let years = year_in_calendar y day holds is in
    let date = date_in_month day y r n years.first years.last (omega arith) (omega (arith, ap (days_of_months y) index)) to e in
    let d : suc (r - days_of_months y n) ≡ r - before + 1 = omega (arith, same) in
    let P : ℕ → Type 0 = λ d. IsDateOf day y (suc n) d in
    subst P d (record { exists = date.0; is = date.1 })

-- the day of the year is below the year's length
pub ordinal_in : (day y : ℤ) → HoldsDay y day → (pos 0 ≤ℤ (day -ℤ year_start y)) × ((day -ℤ year_start y) <ℤ pos (days_in_year y)) × (days_in_year y ≤ 366)
ordinal_in day y holds = (omega (arith, signed_arith, holds.begun), omega (arith, signed_arith, holds.not_over, year_start-next y), days_in_year_bound y)

-- for equal numbers
pub moved_date : (day n y z : ℤ) (m d : ℕ) → day ≡ n → y ≡ z → IsDateOf day y m d → IsDateOf n z m d
moved_date day n y z m d e f is =
    let P : ℤ → Type 0 = λ y. IsDateOf day y m d in
    let Q : ℤ → Type 0 = λ n. IsDateOf n z m d in
    subst Q e (subst P f is)

-- any day number of the calendar, by its year, then its month
pub date_of_day : (day : ℤ) → IsDay day → (y : ℤ) × (m : ℕ) × (d : ℕ) × IsDate y m d × (day_of y m d ≡ day)
date_of_day day is =
    let end : negsuc 262142 +ℤ pos 524286 ≡ pos 262143 = omega (arith, signed_arith) in
    let held = year_of_day day (negsuc 262142) 524286 (omega (arith, signed_arith, first_start, is.first)) (rw end (omega (arith, signed_arith, last_start, is.last))) in
    let y = held.0 in
    let r = unsigned_abs (day -ℤ year_start y) in
    let offset : day ≡ year_start y +ℤ pos r = omega (arith, signed_arith, held.1.begun, one_part (day -ℤ year_start y)) in
    let short : r < days_of_months y 12 = omega (arith, signed_arith, offset, held.1.not_over, year_start-next y, year_of_months y) in
    let month = month_of_day y r 12 short in
    let date = date_in_month day y r month.0 held.1.from_first (omega (arith, signed_arith, held.1.before_end)) month.1 month.2 month.3 offset in
    (y, suc month.0, suc (r - days_of_months y month.0), date.0, date.1)
