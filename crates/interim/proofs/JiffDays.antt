-- Day numbers of `jiff` are those of `civil`, in the years that `jiff` has.
use Rattle.std.proofs.Common.{◌≡◌, inl, inr, ℕ, zero, suc, ◌+◌, ◌-◌, ◌≤◌, Some, None, ℤ, pos, negsuc, ◌+ℤ◌, ◌-ℤ◌, ◌≤ℤ◌, unsigned_abs, refl, sym, ap, ◌∙◌, arith}
use Rattle.std.proofs.Common.{min}
use Rattle.std.proofs.lemmas.Int.{by_lt_z}
use Rattle.civil.specs.Months.{moved_year, moved_month, months_on}
use Rattle.std.proofs.lemmas.Bool.{cases_Bool}
use Rattle.civil.specs.Calendar.{days_in_month, year_start, day_of}
use Rattle.civil.specs.CivilDates.{HoldsDay}
use Rattle.civil.specs.DateLaws.{IsMonthDay, MonthDaysAreDays, YearsHaveTheirDays}
use Rattle.civil.specs.Laws.{CountsYears}
use Rattle.civil.specs.Calendar.{days_of_months as months_before}
use Rattle.jiff_core.proofs.SignedLemmas.{signed_arith, one_part, int_rem_euclid-parts}
use Rattle.civil.specs.Calendar.{weekday_of}
use Rattle.jiff_core.specs.Calendar.{days_of_years, days_of_months, day_count, days_from_civil, weekday_number, IsCivilDate, IsDate, IsYear}
use Rattle.jiff_core.specs.Date.{epoch_day}
use Rattle.jiff_core.specs.declared.civil.date.Date.{Date}
use Rattle.jiff_core.proofs.CalendarLemmas.{day_count-epoch, day_count-end, day_count-min, day_count_bounds, days_of_months-zero}
use Rattle.jiff_core.proofs.DateLemmas.{civil}
use Rattle.interim.specs.Jiff.{jiff_days}
use Rattle.interim.specs.JiffDays.{JiffDaysAreDays}
use Rattle.interim.specs.DatesAndTimes.{is_date, date_at, IsDateOn}
use Rattle.interim.specs.Refusal.{within}
use Rattle.interim.proofs.Stretches.{is_date-of, is_date-tells, is_within-of, is_within-not}

-- the years from -10000 on
years_from : CountsYears → (n : ℕ) → year_start (pos n -ℤ pos 10000) ≡ year_start (negsuc 9999) +ℤ pos (days_of_years n)
unfolding days_of_years
years_from law zero = omega (arith, signed_arith)
years_from law (suc n) =
    let next : pos (suc n) -ℤ pos 10000 ≡ (pos n -ℤ pos 10000) +ℤ pos 1 = omega (arith, signed_arith) in
    ap year_start next ∙ omega (arith, signed_arith, years_from law n, law.next (pos n -ℤ pos 10000))

day_count-is : (y : ℤ) (m d : ℕ) → day_count y m d ≡ days_of_years (unsigned_abs (y +ℤ pos 10000)) + (days_of_months y (m - 1) + d - 1)
unfolding day_count
day_count-is y m d = refl

-- the year -10000 begins so many days before 1970
first_start : CountsYears → year_start (negsuc 9999) ≡ negsuc 4371952
first_start law = omega (arith, signed_arith, law.epoch, years_from law 11970, day_count-epoch, day_count-is (pos 1970) 1 1, days_of_months-zero (pos 1970))

-- the months of a year
same_months : (y : ℤ) (n : ℕ) → days_of_months y n ≡ months_before y n
unfolding days_of_months months_before
same_months y zero = refl
same_months y (suc n) = ap (λ k. k + days_in_month y (suc n)) (same_months y n)

days_from_civil-is : (y : ℤ) (m d : ℕ) → days_from_civil y m d ≡ pos (day_count y m d) -ℤ pos 4371953
unfolding days_from_civil
days_from_civil-is y m d = ap (λ (n : ℕ). pos (day_count y m d) -ℤ pos n) day_count-epoch

day_of-is : (y : ℤ) (m d : ℕ) → day_of y m d ≡ year_start y +ℤ pos (months_before y (m - 1) + (d - 1))
unfolding day_of
day_of-is y m d = refl

same_day : CountsYears → (y : ℤ) (m d : ℕ) → IsCivilDate y m d → days_from_civil y m d ≡ day_of y m d
same_day law y m d is =
    let n = unsigned_abs (y +ℤ pos 10000) in
    let back : pos n -ℤ pos 10000 ≡ y = omega (arith, signed_arith, is.0.0, one_part (y +ℤ pos 10000)) in
    let years = rw back at (years_from law n) in
    omega (arith, signed_arith, days_from_civil-is y m d, day_count-is y m d, same_months y (m - 1), day_of-is y m d, years, first_start law, is.2.0, day_count_bounds y m d is)

-- ---- days of years that `jiff` does not have

first_year : CountsYears → year_start (negsuc 9998) ≡ negsuc 4371586
first_year law = omega (arith, signed_arith, first_start law, years_from law 1, day_count-min, day_count-is (negsuc 9998) 1 1, days_of_months-zero (negsuc 9998))

last_year : CountsYears → year_start (pos 10000) ≡ pos 2932897
last_year law = omega (arith, signed_arith, first_start law, years_from law 20000, day_count-end, day_count-is (pos 10000) 1 1, days_of_months-zero (pos 10000))

-- a year of which `jiff` has a day is one that it has
year_inside : CountsYears → YearsHaveTheirDays → (y day : ℤ) → HoldsDay y day → negsuc 4371586 ≤ℤ day → day ≤ℤ pos 2932896 → IsYear y
year_inside law years y day is low high = (
  by_lt_z y (negsuc 9998)
      (λ before. absurd (omega (arith, signed_arith, low, is.not_over, first_year law, years.least (y +ℤ pos 1) (negsuc 9998) (omega (arith, signed_arith)))))
      (λ from. from),
  by_lt_z (pos 9999) y
      (λ after. absurd (omega (arith, signed_arith, high, is.begun, last_year law, years.least (pos 10000) y (omega (arith, signed_arith)))))
      (λ to. to),
)

pub days_are_days : CountsYears → YearsHaveTheirDays → MonthDaysAreDays → JiffDaysAreDays
days_are_days law years months = record {
  same = same_day law;
  inside = λ y m d is low high. (year_inside law years y (day_of y m d) (months.in_year y m d is) low high, (is.from, is.to), (is.first, is.last));
}

-- ---- what `jiff` finds

-- the day of a date of `jiff` is one of its days
day_found : JiffDaysAreDays → (y : ℤ) (m d : ℕ) → IsCivilDate y m d → within jiff_days (day_of y m d) ≡ Some (days_from_civil y m d)
day_found law y m d is =
    let bounds = day_count_bounds y m d is in
    let same = law.same y m d is in
    rw (is_within-of jiff_days (day_of y m d) (omega (arith, signed_arith, days_from_civil-is y m d)) (omega (arith, signed_arith, days_from_civil-is y m d))) (ap (λ (n : ℤ). Some n) (sym same))

date_found : JiffDaysAreDays → (y : ℤ) (m d : ℕ) → IsCivilDate y m d → date_at jiff_days y m d ≡ Some (days_from_civil y m d)
unfolding date_at
date_found law y m d is = rw (is_date-of y m d is.1.0 is.1.1 is.2.0 is.2.1) (day_found law y m d is)

-- a date with these parts
pub found : JiffDaysAreDays → (date : Date) (y : ℤ) (m d : ℕ) → date.year ≡ y → date.month ≡ m → date.day ≡ d → date_at jiff_days y m d ≡ Some (epoch_day date)
found law date y m d e f g = rw (← e, ← f, ← g) (date_found law date.year date.month date.day (civil date))

-- no date
pub not_found : JiffDaysAreDays → (y : ℤ) (m d : ℕ) → (IsCivilDate y m d → ⊥) → date_at jiff_days y m d ≡ None
unfolding date_at
not_found law y m d never =
    elim (cases_Bool (is_date y m d)) [
      | inl holds ↦ rw (holds, is_within-not jiff_days (day_of y m d) (λ low high. never (law.inside y m d (is_date-tells y m d holds) low high))) refl
      | inr fails ↦ rw fails refl
    ]

-- the same of the signed numbers that `jiff` takes
pub signed_date : (y y' m' d' : ℤ) (m d : ℕ) → y' ≡ y → m' ≡ pos m → d' ≡ pos d → IsCivilDate y m d → IsDate y' m' d'
signed_date y y' m' d' m d e f g is =
    rw (e, f, g) (is.0, (omega (arith, signed_arith, is.1.0), omega (arith, signed_arith, is.1.1)), (omega (arith, signed_arith, is.2.0), omega (arith, signed_arith, is.2.1)))

-- the date of its day
pub date_of : JiffDaysAreDays → (date : Date) (y : ℤ) → y ≡ date.year → IsDateOn (epoch_day date) y date.month date.day
date_of law date y e =
    let is = civil date in
    rw e (record { exists = is_date-of date.year date.month date.day is.1.0 is.1.1 is.2.0 is.2.1; is = sym (law.same date.year date.month date.day is) })

-- the weekday of a day
pub same_weekday : (day : ℤ) → pos (weekday_number day) ≡ weekday_of day
unfolding weekday_number
same_weekday day = omega (arith, signed_arith, int_rem_euclid-parts (day +ℤ pos 3) 7)

-- ---- dates moved by months

-- past the years of `jiff`
pub moved_out : JiffDaysAreDays → (date : Date) (y n : ℤ) (m : ℕ) → y ≡ moved_year date.year date.month n → m ≡ moved_month date.year date.month n → 1 ≤ m → m ≤ 12 → (IsYear y → ⊥)
    → within jiff_days (months_on date.year date.month date.day n) ≡ None
unfolding months_on
moved_out law date y n m e f from to never =
    let some : 1 ≤ days_in_month y m = grind arith in
    let first = date.day_in.0 in
    let cut : IsMonthDay y m (min date.day (days_in_month y m)) = record { from = from; to = to; first = omega arith; last = omega arith } in
    rw (← e, ← f, is_within-not jiff_days (day_of y m (min date.day (days_in_month y m))) (λ low high. never (law.inside y m _ cut low high).0)) refl

-- inside them
pub moved_in : JiffDaysAreDays → (date cut : Date) (y n : ℤ) (m : ℕ) → y ≡ moved_year date.year date.month n → m ≡ moved_month date.year date.month n → cut.year ≡ y → cut.month ≡ m
    → cut.day ≡ min date.day (days_in_month y m) → within jiff_days (months_on date.year date.month date.day n) ≡ Some (epoch_day cut)
unfolding months_on
moved_in law date cut y n m e f year month day =
    rw (← e, ← f, ← day, ← year, ← month) (day_found law cut.year cut.month cut.day (civil cut))
