-- How a date is written: year, month and day with dashes (docs/CALENDAR.md, "The text of a date").
use Rattle.std.specs.Prelude.{ℕ, zero, suc, ◌+◌, ◌-◌, ◌/◌, ◌%◌, List, [], ◌∷◌, ◌++◌, codes, if◌then◌else◌, nat_lt, ℤ, pos, ◌+ℤ◌, ◌-ℤ◌, ◌*ℤ◌, int_lt, unsigned_abs}
use Rattle.std.specs.Int.{int_div_euclid}
use Rattle.std.specs.Fmt.{decimal}
use Rattle.civil.specs.Calendar.{year_start, days_of_months}

-- a year from 0 to 9999 has no sign
abbrev pub year_sign : ℤ → List ℕ
year_sign y =
    if int_lt y (pos 0) then codes "-"
    else (if int_lt (pos 9999) y then codes "+" else [])

-- two digits of a number below 100, and a text behind them
abbrev pub two_digits : ℕ → List ℕ → List ℕ
two_digits n more = decimal (n / 10) ++ (decimal (n % 10) ++ more)

-- at least four digits, and a text behind them
abbrev pub four_digits : ℕ → List ℕ → List ℕ
four_digits n more = decimal (n / 1000) ++ (decimal (n / 100 % 10) ++ two_digits (n % 100) more)

-- a year, a month and a day of the month
abbrev pub ymd_text : ℤ → ℕ → ℕ → List ℕ
ymd_text y m d =
    year_sign y ++ four_digits (unsigned_abs y) (45 ∷ two_digits m (45 ∷ (decimal (d / 10) ++ decimal (d % 10))))

-- the last of the n years after a year that has begun by a day, or that year
unfoldable pub last_year : ℕ → ℤ → ℤ → ℤ
last_year zero y day = y
last_year (suc n) y day = if int_lt day (year_start (y +ℤ pos (suc n))) then last_year n y day else y +ℤ pos (suc n)

-- the year that holds a day: one of 400, which begin with a year that 400 divides
unfoldable pub year_on : ℤ → ℤ
year_on day = last_year 400 (pos 400 *ℤ int_div_euclid (day +ℤ pos 719528) (pos 146097)) day

-- the last month of a year, of the first n + 1, that has begun by a day of the year, which counts from 0
unfoldable pub last_month : ℕ → ℤ → ℕ → ℕ
last_month zero y r = 1
last_month (suc n) y r = if nat_lt r (days_of_months y (suc n)) then last_month n y r else suc (suc n)

-- the days of the year before a day
abbrev pub days_before : ℤ → ℕ
days_before day = unsigned_abs (day -ℤ year_start (year_on day))

-- the month that holds a day
unfoldable pub month_on : ℤ → ℕ
month_on day = last_month 11 (year_on day) (days_before day)

-- its day of that month
unfoldable pub day_on : ℤ → ℕ
day_on day = days_before day - days_of_months (year_on day) (month_on day - 1) + 1

-- the text of a day number; `Laws` says that it is that of its date
unfoldable pub date_text : ℤ → List ℕ
date_text day = ymd_text (year_on day) (month_on day) (day_on day)
