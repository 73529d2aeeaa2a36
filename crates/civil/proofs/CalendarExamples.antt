-- Worked examples of the calendar's definitions. Each holds as both sides compute.
use Rattle.std.proofs.Common.{◌≡◌, true, false, refl, ap, ◌∙◌, pos, negsuc, ◌+ℤ◌, ◌*ℤ◌}
use Rattle.civil.specs.Calendar.{is_leap_year, days_in_month, days_of_months, year_start, day_of, weekday_of, wall_second, year_second}
use Rattle.civil.specs.Inside.LeapDays.{leap_days_to}
use Rattle.civil.proofs.CalendarLemmas.{year_start-closed, day_of-is}

-- the years 2024, 2000, 0 and -4 are leap, and 2023 and 1900 are not
leap_2024 : is_leap_year (pos 2024) ≡ true
leap_2024 = refl

leap_2000 : is_leap_year (pos 2000) ≡ true
leap_2000 = refl

leap_0 : is_leap_year (pos 0) ≡ true
leap_0 = refl

leap_minus_4 : is_leap_year (negsuc 3) ≡ true
leap_minus_4 = refl

common_2023 : is_leap_year (pos 2023) ≡ false
common_2023 = refl

common_1900 : is_leap_year (pos 1900) ≡ false
common_1900 = refl

-- February has 29 days in 2024, and 28 in 2023
february_2024 : days_in_month (pos 2024) 2 ≡ 29
february_2024 = refl

february_2023 : days_in_month (pos 2023) 2 ≡ 28
february_2023 = refl

-- 1970 begins at day 0, and 2018 at day 17532
start_1970 : year_start (pos 1970) ≡ pos 0
unfolding leap_days_to
start_1970 = year_start-closed (pos 1970) (pos 1969) refl

start_2018 : year_start (pos 2018) ≡ pos 17532
unfolding leap_days_to
start_2018 = year_start-closed (pos 2018) (pos 2017) refl

-- the year 0 begins at day -719528, and -1 a common year before
start_0 : year_start (pos 0) ≡ negsuc 719527
unfolding leap_days_to
start_0 = year_start-closed (pos 0) (negsuc 0) refl

start_minus_1 : year_start (negsuc 0) ≡ negsuc 719892
unfolding leap_days_to
start_minus_1 = year_start-closed (negsuc 0) (negsuc 1) refl

-- 1970-01-01, 2018-03-23 and 0000-02-29
day_1970 : day_of (pos 1970) 1 1 ≡ pos 0
unfolding days_of_months
day_1970 = day_of-is (pos 1970) 1 1 ∙ ap (λ start. start +ℤ pos 0) start_1970

day_2018 : day_of (pos 2018) 3 23 ≡ pos 17613
unfolding days_of_months
day_2018 = day_of-is (pos 2018) 3 23 ∙ ap (λ start. start +ℤ pos 81) start_2018

day_0 : day_of (pos 0) 2 29 ≡ negsuc 719468
unfolding days_of_months
day_0 = day_of-is (pos 0) 2 29 ∙ ap (λ start. start +ℤ pos 59) start_0

-- day 0 is a Thursday, the day before it a Wednesday, and day 17613 a Friday
weekday_0 : weekday_of (pos 0) ≡ pos 3
weekday_0 = refl

weekday_minus_1 : weekday_of (negsuc 0) ≡ pos 2
weekday_minus_1 = refl

weekday_17613 : weekday_of (pos 17613) ≡ pos 4
weekday_17613 = refl

-- the last second before 1970, and 24:00:00 of the day before, which is day 0 at 00:00:00
before_1970 : wall_second (negsuc 0) 23 59 59 ≡ negsuc 0
before_1970 = refl

midnight : wall_second (negsuc 0) 24 0 0 ≡ wall_second (pos 0) 0 0 0
midnight = refl

-- 2018 begins at second 1514764800
second_2018 : year_second (pos 2018) ≡ pos 1514764800
second_2018 = ap (λ start. pos 86400 *ℤ start) start_2018
