-- The days of a yearly rule (docs/ZONES.md, "Rules").
use Rattle.std.specs.Prelude.{ℕ, zero, suc, ◌+◌, ◌%◌, int_lt, if◌then◌else◌, ℤ, pos, ◌+ℤ◌, ◌-ℤ◌, ◌*ℤ◌, unsigned_abs}
use Rattle.std.specs.Ordering.{int_eq}
use Rattle.civil.specs.Calendar.{year_start, days_of_months, weekday_of}
use Rattle.timeline.specs.Zone.{DateRule}

-- the day number of the first of a month, with January 0
abbrev pub month_start : ℤ → ℕ → ℤ
month_start y m = year_start y +ℤ pos (days_of_months y m)

-- the weekday of a code, whose size is 1 for Sunday to 7 for Saturday; Monday is 0, so Sunday is 6
abbrev pub code_weekday : ℤ → ℤ
code_weekday code = pos ((unsigned_abs code + 5) % 7)

-- the first day with the weekday w of the n + 1 days from `from` on; within seven days there is one
unfoldable pub first_on : ℕ → ℤ → ℤ → ℤ
first_on zero w from = from
first_on (suc n) w from = if int_eq (weekday_of from) w then from else first_on n w (from +ℤ pos 1)

-- the last such day of the n + 1 days up to `to`
unfoldable pub last_on : ℕ → ℤ → ℤ → ℤ
last_on zero w to = to
last_on (suc n) w to = if int_eq (weekday_of to) w then to else last_on n w (to -ℤ pos 1)

-- the day that a date's day of the month names, whatever its sign
abbrev pub anchor : DateRule → ℤ → ℤ
anchor r y = month_start y r.month +ℤ pos (unsigned_abs r.day) -ℤ pos 1

-- the day number of a date in a year: the anchor; the nth such weekday of the month, with n the day; the first one
-- from the anchor on; or the last one up to it
unfoldable pub rule_date : DateRule → ℤ → ℤ
rule_date r y =
    if int_eq r.code (pos 0) then anchor r y
    else (if int_lt (pos 0) r.code then first_on 6 (code_weekday r.code) (month_start y r.month) +ℤ pos 7 *ℤ (r.day -ℤ pos 1)
    else (if int_lt (pos 0) r.day then first_on 6 (code_weekday r.code) (anchor r y)
    else last_on 6 (code_weekday r.code) (anchor r y)))
