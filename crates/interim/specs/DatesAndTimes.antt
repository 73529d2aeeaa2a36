-- Dates and clock times of a meaning (docs/GRAMMAR.md, "The meaning").
use Rattle.std.specs.Prelude.{◌≡◌, ℕ, ◌*◌, nat_le, nat_lt, Bool, ◌&&◌, IsTrue, if◌then◌else◌, Option, Some, None, ℤ}
use Rattle.std.specs.declared.cmp.Ordering.{Ordering}
use Rattle.std.specs.declared.cmp.Ordering.TheVariants.{Less, Greater}
use Rattle.std.specs.Ordering.{nat_cmp, match_ordering}
use Rattle.civil.specs.Calendar.{days_in_month, day_of}
use Rattle.civil.specs.Clock.{clock_second}
use Rattle.interim.specs.Refusal.{Ends, within}

-- the year has this month, and the month this day
abbrev pub is_date : ℤ → ℕ → ℕ → Bool
is_date y m d = nat_le 1 m && nat_le m 12 && nat_le 1 d && nat_le d (days_in_month y m)

-- the day of a date, where it exists and the calendar has it
unfoldable pub date_at : Ends → ℤ → ℕ → ℕ → Option ℤ
date_at days y m d = if is_date y m d then within days (day_of y m d) else None

-- the date of a day
pub record IsDateOn (day y : ℤ) (m d : ℕ) : Type 0 where
  pub exists : IsTrue (is_date y m d)
  pub is : day_of y m d ≡ day

-- minute and second are those of a clock
abbrev pub is_clock : ℕ → ℕ → Bool
is_clock min sec = nat_lt min 60 && nat_lt sec 60

-- a time of one day: its second and its nanoseconds
unfoldable pub time_at : ℕ → ℕ → ℕ → Option (ℕ × ℕ)
time_at hour min sec = if nat_lt hour 24 && is_clock min sec then Some (clock_second hour min sec, 0) else None

-- the same time with so many microseconds
abbrev pub with_micros : ℕ → ℕ × ℕ → Option (ℕ × ℕ)
with_micros micros time = if nat_lt micros 1000000 then Some (time.0, 1000 * micros) else None

-- times of a day in their order
abbrev pub time_cmp : ℕ × ℕ → ℕ × ℕ → Ordering
time_cmp a b = match_ordering (nat_cmp a.0 b.0) Less (nat_cmp a.1 b.1) Greater
