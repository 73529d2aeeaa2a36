-- What the calendar keeps of every year, whether it has its dates or not (docs/CALENDAR.md, "Years and months").
use Rattle.std.specs.Prelude.{◌≡◌, ℕ, ◌≤◌, ℤ, pos, ◌-ℤ◌, ◌*ℤ◌, ◌≤ℤ◌}
use Rattle.civil.specs.Calendar.{days_in_month, year_start, day_of}
use Rattle.civil.specs.CivilDates.{HoldsDay, IsDate, IsDay}

-- from the start of a year to that of a later one there are 365 or 366 days for each year
pub record YearsHaveTheirDays : Type 0 where
  pub least : (y z : ℤ) → y ≤ℤ z → (pos 365 *ℤ (z -ℤ y)) ≤ℤ (year_start z -ℤ year_start y)
  pub most : (y z : ℤ) → y ≤ℤ z → (year_start z -ℤ year_start y) ≤ℤ (pos 366 *ℤ (z -ℤ y))

-- a month of the year, and a day of it
pub record IsMonthDay (y : ℤ) (m d : ℕ) : Type 0 where
  pub from : 1 ≤ m
  pub to : m ≤ 12
  pub first : 1 ≤ d
  pub last : d ≤ days_in_month y m

-- the days of the months of all years have day numbers
pub record MonthDaysAreDays : Type 0 where
  -- in their years
  pub in_year : (y : ℤ) (m d : ℕ) → IsMonthDay y m d → HoldsDay y (day_of y m d)
  -- each its own
  pub once : (y : ℤ) (m d : ℕ) (z : ℤ) (n e : ℕ) → IsMonthDay y m d → IsMonthDay z n e → day_of y m d ≡ day_of z n e → (y ≡ z) × (m ≡ n) × (d ≡ e)
  -- and it is a date of the calendar, where the calendar has its day
  pub inside : (y : ℤ) (m d : ℕ) → IsMonthDay y m d → IsDay (day_of y m d) → IsDate y m d
