-- Days by their place in the year (docs/CALENDAR.md, "Dates").
use Rattle.std.specs.Prelude.{◌≡◌, ℕ, ◌-◌, ◌≤◌, ℤ, pos, ◌+ℤ◌}
use Rattle.civil.specs.Calendar.{days_in_year, year_start}

-- the year has this day, counted from 1
pub record IsOrdinal (y : ℤ) (n : ℕ) : Type 0 where
  pub first : 1 ≤ n
  pub last : n ≤ days_in_year y

-- its day number
unfoldable pub ordinal_day : ℤ → ℕ → ℤ
ordinal_day y n = year_start y +ℤ pos (n - 1)

-- the day of this number is this one of the year
pub record IsOrdinalOf (day y : ℤ) (n : ℕ) : Type 0 where
  pub exists : IsOrdinal y n
  pub is : ordinal_day y n ≡ day
