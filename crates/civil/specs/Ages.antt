-- Whole years between two dates (docs/CALENDAR.md, "Months and years on").
use Rattle.std.specs.Prelude.{ℕ, ◌==◌, ◌&&◌, ◌||◌, nat_lt, Bool, if◌then◌else◌, ℤ, pos, ◌-ℤ◌}

-- a month and day of a year come before those of another
abbrev pub is_before : ℕ → ℕ → ℕ → ℕ → Bool
is_before m d m' d' = nat_lt m m' || ((m == m') && nat_lt d d')

-- the whole years from a date to another: the difference of the years, and one less before the month and day have come
abbrev pub years_between : ℤ → ℕ → ℕ → ℤ → ℕ → ℕ → ℤ
years_between y m d y' m' d' = y -ℤ y' -ℤ (if is_before m d m' d' then pos 1 else pos 0)
