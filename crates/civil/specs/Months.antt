-- Dates moved by months (docs/CALENDAR.md, "Months and years on").
use Rattle.std.specs.Prelude.{ℕ, ◌+◌, ◌-◌, ℤ, pos, ◌+ℤ◌, ◌*ℤ◌, min, unsigned_abs}
use Rattle.std.specs.Int.{int_div_euclid, int_rem_euclid}
use Rattle.civil.specs.Calendar.{days_in_month, day_of}

-- the months from January of the year 0 to n months after a month
abbrev pub month_number : ℤ → ℕ → ℤ → ℤ
month_number y m n = pos 12 *ℤ y +ℤ pos (m - 1) +ℤ n

-- the year of that month
unfoldable pub moved_year : ℤ → ℕ → ℤ → ℤ
moved_year y m n = int_div_euclid (month_number y m n) (pos 12)

-- and its number in the year, from 1
unfoldable pub moved_month : ℤ → ℕ → ℤ → ℕ
moved_month y m n = unsigned_abs (int_rem_euclid (month_number y m n) (pos 12)) + 1

-- the day of that month, cut to its last one
abbrev pub day_in_month : ℤ → ℕ → ℕ → ℕ
day_in_month y m d = min d (days_in_month y m)

-- the day number of a date that is moved by n months, forwards or back
unfoldable pub months_on : ℤ → ℕ → ℕ → ℤ → ℤ
months_on y m d n =
    day_of (moved_year y m n) (moved_month y m n) (day_in_month (moved_year y m n) (moved_month y m n) d)
