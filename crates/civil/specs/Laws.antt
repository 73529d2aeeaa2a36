-- What the calendar keeps: the count of years as its two equations, dates against day numbers, and the kinds of years
-- (docs/CALENDAR.md, "Years and months").
use Rattle.std.specs.Prelude.{◌≡◌, ◌⊎◌, ◌<◌, ℕ, ℤ, pos, ◌+ℤ◌, ◌<ℤ◌, ◌≤ℤ◌}
use Rattle.civil.specs.Calendar.{year_start, days_in_year, days_in_month, day_of, weekday_of, year_kind}
use Rattle.civil.specs.CivilDates.{IsDate, IsDay, IsDateOf}

-- day 0 begins the year 1970, and each year begins where the one before it ends, before 1970 too
pub record CountsYears : Type 0 where
  pub epoch : year_start (pos 1970) ≡ pos 0
  pub next : (y : ℤ) → year_start (y +ℤ pos 1) ≡ year_start y +ℤ pos (days_in_year y)

-- the first date is earlier: by year, then by month, then by day of the month
abbrev pub IsEarlier : ℤ → ℕ → ℕ → ℤ → ℕ → ℕ → Type 0
IsEarlier y m d y' m' d' = (y <ℤ y') ⊎ ((y ≡ y') × ((m < m') ⊎ ((m ≡ m') × (d < d'))))

-- dates and day numbers correspond one to one, in the same order
pub record DatesAreDays : Type 0 where
  -- each date has a day number of the calendar
  pub inside : (y : ℤ) (m d : ℕ) → IsDate y m d → IsDay (day_of y m d)
  -- an earlier date has a smaller one, so two dates never share one
  pub order : (y : ℤ) (m d : ℕ) (y' : ℤ) (m' d' : ℕ) → IsDate y m d → IsDate y' m' d' → IsEarlier y m d y' m' d' → day_of y m d <ℤ day_of y' m' d'
  -- and each day number of the calendar is that of a date
  pub onto : (day : ℤ) → IsDay day → (y : ℤ) × (m : ℕ) × (d : ℕ) × IsDate y m d × (day_of y m d ≡ day)
  -- of no other one
  pub once : (day y : ℤ) (m d : ℕ) (y' : ℤ) (m' d' : ℕ) → IsDateOf day y m d → IsDateOf day y' m' d' → (y ≡ y') × (m ≡ m') × (d ≡ d')

-- years of one kind have the same months and the same weekdays, and every kind occurs
pub record KindsOfYear : Type 0 where
  pub few : (y : ℤ) → year_kind y < 14
  pub months : (y z : ℤ) → year_kind y ≡ year_kind z → (m : ℕ) → days_in_month y m ≡ days_in_month z m
  -- the weekday n days after 1 January
  pub weekdays : (y z : ℤ) → year_kind y ≡ year_kind z → (n : ℤ) → weekday_of (year_start y +ℤ n) ≡ weekday_of (year_start z +ℤ n)
  -- in any 400 years in a row
  pub occur : (y : ℤ) (k : ℕ) → k < 14 → (z : ℤ) × (y ≤ℤ z) × (z <ℤ (y +ℤ pos 400)) × (year_kind z ≡ k)

-- the calendar repeats after 400 years, which are 146,097 days, and so 20,871 weeks
pub record YearsRepeat : Type 0 where
  pub start : (y : ℤ) → year_start (y +ℤ pos 400) ≡ year_start y +ℤ pos 146097
  pub kind : (y : ℤ) → year_kind (y +ℤ pos 400) ≡ year_kind y
