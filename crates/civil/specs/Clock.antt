-- Clock times, and the wall seconds of the calendar (docs/CALENDAR.md, "Clock times").
use Rattle.std.specs.Prelude.{◌≡◌, ℕ, ◌+◌, ◌*◌, ◌<◌, ◌≤◌, ℤ, pos, negsuc, ◌≤ℤ◌, unsigned_abs}
use Rattle.std.specs.Int.{int_div_euclid, int_rem_euclid}

-- a clock shows this hour, minute and second
pub record IsClock (hour minute second : ℕ) : Type 0 where
  pub in_day : hour < 24
  pub in_hour : minute < 60
  pub in_minute : second < 60

-- the second of the day at which a clock shows them
abbrev pub clock_second : ℕ → ℕ → ℕ → ℕ
clock_second hour minute second = 3600 * hour + 60 * minute + second

-- the nanoseconds of a second, which pass 999,999,999 in a leap second alone: one after the second 59 of a minute
pub record IsFraction (second nanos : ℕ) : Type 0 where
  pub short : nanos < 2000000000
  pub leap : 1000000000 ≤ nanos → second ≡ 59

-- the calendar has this wall second
pub record IsWallSecond (w : ℤ) : Type 0 where
  pub first : negsuc 8334601228799 ≤ℤ w
  pub last : w ≤ℤ pos 8210266876799

-- the day of a wall second
unfoldable pub wall_day : ℤ → ℤ
wall_day w = int_div_euclid w (pos 86400)

-- and its second of that day
unfoldable pub wall_clock : ℤ → ℕ
wall_clock w = unsigned_abs (int_rem_euclid w (pos 86400))
