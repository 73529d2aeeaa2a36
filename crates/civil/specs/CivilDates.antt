-- Dates of the proleptic Gregorian calendar, and their days (docs/CALENDAR.md, "Dates").
use Rattle.std.specs.Prelude.{◌≡◌, ℕ, ◌≤◌, ℤ, pos, negsuc, ◌+ℤ◌, ◌<ℤ◌, ◌≤ℤ◌}
use Rattle.civil.specs.Calendar.{days_in_month, year_start, day_of}

-- the first year of the calendar, -262143
abbrev pub min_year : ℤ
min_year = negsuc 262142

-- and its last one, 262142
abbrev pub max_year : ℤ
max_year = pos 262142

-- the calendar has this date
pub record IsDate (y : ℤ) (m d : ℕ) : Type 0 where
  pub first_year : min_year ≤ℤ y
  pub last_year : y ≤ℤ max_year
  pub first_month : 1 ≤ m
  pub last_month : m ≤ 12
  pub first_day : 1 ≤ d
  pub last_day : d ≤ days_in_month y m

-- the calendar has the day of this number
pub record IsDay (day : ℤ) : Type 0 where
  pub first : negsuc 96465291 ≤ℤ day
  pub last : day ≤ℤ pos 95026236

-- the day of this number is this date of the calendar
pub record IsDateOf (day y : ℤ) (m d : ℕ) : Type 0 where
  pub exists : IsDate y m d
  pub is : day_of y m d ≡ day

-- the day lies in the year
pub record HoldsDay (y day : ℤ) : Type 0 where
  pub begun : year_start y ≤ℤ day
  pub not_over : day <ℤ year_start (y +ℤ pos 1)
