-- The proleptic Gregorian calendar, with a year 0, counted year by year and month by month
-- (docs/CALENDAR.md, "Years and months").
use Rattle.std.specs.Prelude.{ℕ, zero, suc, ◌+◌, ◌-◌, ◌*◌, ◌%◌, Bool, not, ◌&&◌, ◌||◌, ◌==◌, if◌then◌else◌, [], ◌∷◌, slice_index, ℤ, pos, negsuc, ◌+ℤ◌, ◌-ℤ◌, ◌*ℤ◌, neg_ℤ, unsigned_abs}
use Rattle.std.specs.Int.{int_rem_euclid}

-- whether n divides a year's number
abbrev pub divides : ℕ → ℤ → Bool
divides n year = unsigned_abs year % n == 0

-- every fourth year but those of the centuries, of which every fourth is one too
abbrev pub is_leap_year : ℤ → Bool
is_leap_year year = divides 4 year && (not (divides 100 year) || divides 400 year)

-- 366 days in a leap year, 365 in any other
abbrev pub days_in_year : ℤ → ℕ
days_in_year year = if is_leap_year year then 366 else 365

-- thirty days have September, April, June and November, and February has 28, in a leap year 29
abbrev pub days_in_month : ℤ → ℕ → ℕ
days_in_month year month =
    if month == 2 then (if is_leap_year year then 29 else 28)
    else (if (month == 4) || (month == 6) || (month == 9) || (month == 11) then 30 else 31)

-- the days of the n years from the year 0 on
unfoldable pub days_from_zero : ℕ → ℕ
days_from_zero zero = 0
days_from_zero (suc n) = days_from_zero n + days_in_year (pos n)

-- the days of the n years before the year 0
unfoldable pub days_to_zero : ℕ → ℕ
days_to_zero zero = 0
days_to_zero (suc n) = days_to_zero n + days_in_year (negsuc n)

-- the day number of 1 January; `Laws` says that it is 0 for 1970 and grows by each year's days
unfoldable pub year_start : ℤ → ℤ
year_start (pos n) = pos (days_from_zero n) -ℤ pos (days_from_zero 1970)
year_start (negsuc n) = neg_ℤ (pos (days_to_zero (suc n) + days_from_zero 1970))

-- the days of the first n months of the year
unfoldable pub days_of_months : ℤ → ℕ → ℕ
days_of_months year zero = 0
days_of_months year (suc n) = days_of_months year n + days_in_month year (suc n)

-- the day number of a date
unfoldable pub day_of : ℤ → ℕ → ℕ → ℤ
day_of y m d = year_start y +ℤ pos (days_of_months y (m - 1) + (d - 1))

-- the weekday of a day, with Monday 0: day 0 is a Thursday
abbrev pub weekday_of : ℤ → ℤ
weekday_of day = int_rem_euclid (day +ℤ pos 3) (pos 7)

-- the Thursday of a day's week
unfoldable pub thursday_of : ℤ → ℤ
thursday_of day = day +ℤ pos 3 -ℤ weekday_of day

-- the kind of a year: the weekday of 1 January, and 7 more in a leap year
unfoldable pub year_kind : ℤ → ℕ
year_kind y = unsigned_abs (weekday_of (year_start y)) + (if is_leap_year y then 7 else 0)

-- a year of each kind, all from 2000 to 2024
abbrev pub example_year : ℕ → ℤ
example_year k = pos (slice_index (2001 ∷ 2002 ∷ 2003 ∷ 2009 ∷ 2010 ∷ 2005 ∷ 2006 ∷ 2024 ∷ 2008 ∷ 2020 ∷ 2004 ∷ 2016 ∷ 2000 ∷ 2012 ∷ []) k)

-- the wall second of a clock time on a day; its hours may pass 23
abbrev pub wall_second : ℤ → ℕ → ℕ → ℕ → ℤ
wall_second day hour minute second = pos 86400 *ℤ day +ℤ pos (3600 * hour + 60 * minute + second)

-- the first second of a year
abbrev pub year_second : ℤ → ℤ
year_second y = pos 86400 *ℤ year_start y
