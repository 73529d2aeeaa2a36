-- Days by their names, from a base (docs/GRAMMAR.md, "The meaning").
use Rattle.std.specs.Prelude.{◌≡◌, ℕ, if◌then◌else◌, Option, Some, None, option_and_then, ℤ, pos, ◌+ℤ◌, ◌-ℤ◌, ◌*ℤ◌}
use Rattle.std.specs.Ordering.{int_cmp, int_eq}
use Rattle.civil.specs.Calendar.{weekday_of}
use Rattle.interim.specs.declared.types.Dialect.{Dialect}
use Rattle.interim.specs.declared.types.Dialect.TheVariants.{Uk, Us}
use Rattle.interim.specs.declared.types.Direction.{Direction}
use Rattle.interim.specs.declared.types.Direction.TheVariants.{Next, Last, Here}
use Rattle.interim.specs.declared.types.ByName.{ByName}
use Rattle.interim.specs.declared.types.ByName.TheVariants as by_name
use Rattle.interim.specs.declared.types.TimeSpec.{TimeSpec}
use Rattle.interim.specs.Refusal.{Ends, within}
use Rattle.interim.specs.DatesAndTimes.{IsDateOn, time_at, time_cmp}
use Rattle.interim.specs.Aims.{midnight}
use Rattle.interim.specs.Walls.{Wall, step_by, month_day, sought}

-- so many weeks on, where they are not 0
abbrev pub weeks_on : Ends → ℤ → ℤ → Option ℤ
weeks_on days weeks day = within days (day +ℤ pos 7 *ℤ weeks)

-- a written `next` is in `Uk` a week later
abbrev pub weeks_more : Dialect → Direction → ℤ
weeks_more Uk Next = pos 1
weeks_more Uk Last = pos 0
weeks_more Uk Here = pos 0
weeks_more Us direction = pos 0

-- the time that decides on the base's own weekday: hour, minute and second of the clock time, or midnight
abbrev pub deciding_time : Option TimeSpec → Option (ℕ × ℕ)
deciding_time None = Some midnight
deciding_time (Some clock) = time_at clock.hour clock.min clock.sec

-- on the base's own weekday the time may move the day by a week
unfoldable pub own_weekday : Ends → Wall → Direction → Option TimeSpec → ℤ → ℤ → Option ℤ
own_weekday days base direction clock named day =
    if int_eq named base.day
    then option_and_then (λ time. weeks_on days (step_by direction (time_cmp time base.time)) day) (deciding_time clock)
    else Some day

-- the nth day of the base's week, from Monday on, or a week back or on
unfoldable pub week_day : Ends → Wall → Dialect → ℕ → Direction → Option TimeSpec → Option ℤ
week_day days base dialect n direction clock =
    option_and_then (λ named.
    option_and_then (λ sided.
    option_and_then (λ decided. weeks_on days (weeks_more dialect direction) decided)
    (own_weekday days base (sought direction) clock named sided))
    (weeks_on days (step_by (sought direction) (int_cmp named base.day)) named))
    (within days (base.day -ℤ weekday_of base.day +ℤ pos n))

-- the day that a name means
abbrev pub IsNamed : Ends → Wall → Dialect → Option TimeSpec → ByName → Direction → Option ℤ → Type 0
IsNamed days base dialect clock (by_name.WeekDay n) direction found = found ≡ week_day days base dialect n direction clock
IsNamed days base dialect clock (by_name.MonthName m) direction found =
    (y : ℤ) × (n : ℕ) × (d : ℕ) × IsDateOn base.day y n d × (found ≡ month_day days base.day y m 1 direction)
IsNamed days base dialect clock (by_name.DayMonth day m) direction found =
    (y : ℤ) × (n : ℕ) × (d : ℕ) × IsDateOn base.day y n d × (found ≡ month_day days base.day y m day direction)
