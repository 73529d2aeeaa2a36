-- Lengths of time, as whole nanoseconds (docs/CALENDAR.md, "Lengths of time").
use Rattle.std.specs.Prelude.{ℕ, ◌≤◌, ℤ, pos, ◌*ℤ◌, unsigned_abs}

-- at most so far from 0
abbrev pub IsWithin : ℕ → ℤ → Type 0
IsWithin n z = unsigned_abs z ≤ n

-- at most 2 ^ 63 - 1 milliseconds long
pub record IsDelta (nanos : ℤ) : Type 0 where
  pub within : IsWithin 9223372036854775807000000 nanos

-- the nanoseconds of so many seconds
abbrev pub second_nanos : ℤ → ℤ
second_nanos n = pos 1000000000 *ℤ n

-- the nanoseconds of so many minutes
abbrev pub minute_nanos : ℤ → ℤ
minute_nanos n = pos 60000000000 *ℤ n

-- the nanoseconds of so many hours
abbrev pub hour_nanos : ℤ → ℤ
hour_nanos n = pos 3600000000000 *ℤ n

-- the nanoseconds of so many days of 24 hours
abbrev pub day_nanos : ℤ → ℤ
day_nanos n = pos 86400000000000 *ℤ n

-- the nanoseconds of so many weeks of seven such days
abbrev pub week_nanos : ℤ → ℤ
week_nanos n = pos 604800000000000 *ℤ n
