-- The clock time to which a phrase leads (docs/GRAMMAR.md, "The meaning").
use Rattle.std.specs.Prelude.{ℕ, ◌/◌, ◌%◌, Option, Some, None, option_and_then, ℤ, pos, ◌+ℤ◌, ◌-ℤ◌, ◌*ℤ◌}
use Rattle.interim.specs.declared.types.TimeSpec.{TimeSpec}
use Rattle.interim.specs.Refusal.{Ends, within}
use Rattle.interim.specs.DatesAndTimes.{time_at, with_micros}

-- a second; or a wall second, which the zone places; each with its nanoseconds
pub data Aim : Type 0 where
  AtSecond : ℤ → ℕ → Aim
  AtWall : ℤ → ℕ → Aim

-- a time of a day, without a written offset, or with one
abbrev pub aim : Option ℤ → ℤ → ℕ × ℕ → Aim
aim None day time = AtWall (pos 86400 *ℤ day +ℤ pos time.0) time.1
aim (Some offset) day time = AtSecond (pos 86400 *ℤ day +ℤ pos time.0 -ℤ offset) time.1

-- the time of the day that a clock time tells, whose hours may pass 23
abbrev pub clock_time : TimeSpec → Option (ℕ × ℕ)
clock_time time = option_and_then (with_micros time.microsec) (time_at (time.hour % 24) time.min time.sec)

-- a clock time on a day: each 24 hours move the day on
unfoldable pub clock_on : Ends → TimeSpec → ℤ → Option Aim
clock_on days time day =
    option_and_then (λ clock. option_and_then (λ day'. Some (aim time.offset day' clock)) (within days (day +ℤ pos (time.hour / 24)))) (clock_time time)

-- the clock time on a day, or else this time of it
abbrev pub clock_or : Ends → ℕ × ℕ → Option TimeSpec → ℤ → Option Aim
clock_or days time None day = Some (aim None day time)
clock_or days time (Some clock) day = clock_on days clock day

-- midnight
abbrev pub midnight : ℕ × ℕ
midnight = (0, 0)
