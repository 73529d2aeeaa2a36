-- Dates and clock times, with where they lead from 2018-03-21 11:00, a Wednesday.
use Rattle.std.proofs.Common.{◌≡◌, ℕ, Option, Some, None, ℤ, pos, ◌+ℤ◌, ◌-ℤ◌, refl, sym, ap}
use Rattle.std.specs.Prelude.{option_and_then}
use Rattle.std.specs.Ordering.{int_cmp}
use Rattle.civil.specs.Calendar.{weekday_of}
use Rattle.interim.specs.declared.types.DateSpec.TheVariants.{Relative, FromName}
use Rattle.interim.specs.declared.types.ByName.TheVariants as by_name
use Rattle.interim.specs.declared.types.Dialect.{Dialect}
use Rattle.interim.specs.declared.types.Dialect.TheVariants.{Uk, Us}
use Rattle.interim.specs.declared.types.Direction.{Direction}
use Rattle.interim.specs.declared.types.Direction.TheVariants.{Here, Last, Next}
use Rattle.interim.specs.declared.types.Interval.TheVariants.{Days}
use Rattle.interim.specs.declared.types.TimeSpec.{TimeSpec}
use Rattle.interim.specs.Aims.{AtSecond, AtWall, clock_on}
use Rattle.interim.specs.PartMeanings.{LeadsTo}
use Rattle.interim.specs.Walls.{Wall, sought, step_by}
use Rattle.interim.specs.NamedDates.{own_weekday, week_day, weeks_more, weeks_on}
use Rattle.interim.specs.DatesAndTimes.{time_at}
use Rattle.interim.specs.Parts.{clock, with_offset}
use Rattle.interim.specs.Refusal.{civil_days, within}

abbrev base : Wall
base = record { day = pos 17611; time = (39600, 0) }

abbrev weekday : Dialect → ℕ → Direction → Option TimeSpec → Option ℤ
weekday dialect n direction time = week_day civil_days base dialect n direction time

wednesday : weekday_of (pos 17611) ≡ pos 2
wednesday = refl

-- a weekday from a base on a day w of its week
abbrev in_week : ℤ → Dialect → ℕ → Direction → Option TimeSpec → Option ℤ
in_week w dialect n direction clock =
    option_and_then (λ named.
    option_and_then (λ sided.
    option_and_then (λ decided. weeks_on civil_days (weeks_more dialect direction) decided)
    (own_weekday civil_days base (sought direction) clock named sided))
    (weeks_on civil_days (step_by (sought direction) (int_cmp named base.day)) named))
    (within civil_days (base.day -ℤ w +ℤ pos n))

from_wednesday : (dialect : Dialect) (n : ℕ) (direction : Direction) (clock : Option TimeSpec) → weekday dialect n direction clock ≡ in_week (pos 2) dialect n direction clock
unfolding week_day
from_wednesday dialect n direction clock = ap (λ (w : ℤ). in_week w dialect n direction clock) wednesday

-- `tues` is the next Tuesday, 2018-03-27
tues : weekday Uk 1 Here None ≡ Some (pos 17617)
unfolding own_weekday time_at
tues = from_wednesday Uk 1 Here None

-- `next mon` is 2018-03-26 in `Us`, and a week later in `Uk`
next_monday_us : weekday Us 0 Next None ≡ Some (pos 17616)
unfolding own_weekday time_at
next_monday_us = from_wednesday Us 0 Next None

next_monday_uk : weekday Uk 0 Next None ≡ Some (pos 17623)
unfolding own_weekday time_at
next_monday_uk = from_wednesday Uk 0 Next None

-- the week begins on Monday: `last sun` is 2018-03-18
last_sunday : weekday Uk 6 Last None ≡ Some (pos 17608)
unfolding own_weekday time_at
last_sunday = from_wednesday Uk 6 Last None

-- on the base's own weekday the clock decides: `wed 10:00` is a week later, `wed 12:00` the same day, and `wed 24:00` is refused
own_day_passed : weekday Uk 2 Here (Some (clock 10 0 0 0)) ≡ Some (pos 17618)
unfolding own_weekday time_at
own_day_passed = from_wednesday Uk 2 Here (Some (clock 10 0 0 0))

own_day_to_come : weekday Uk 2 Here (Some (clock 12 0 0 0)) ≡ Some (pos 17611)
unfolding own_weekday time_at
own_day_to_come = from_wednesday Uk 2 Here (Some (clock 12 0 0 0))

own_day_refused : weekday Uk 2 Here (Some (clock 24 0 0 0)) ≡ None
unfolding own_weekday time_at
own_day_refused = from_wednesday Uk 2 Here (Some (clock 24 0 0 0))

-- `friday 8pm` is 2018-03-23 20:00
friday : LeadsTo civil_days base Uk (FromName (by_name.WeekDay 4) Here) (Some (clock 20 0 0 0)) (Some (AtWall (pos 1521835200) 0))
unfolding own_weekday time_at clock_on
friday = (Some (pos 17613), sym (from_wednesday Uk 4 Here (Some (clock 20 0 0 0))), refl)

-- `2d 03:00` is 2018-03-23 03:00, and without a clock time two days keep the base's own time
two_days_at_three : LeadsTo civil_days base Uk (Relative (Days (pos 2))) (Some (clock 3 0 0 0)) (Some (AtWall (pos 1521774000) 0))
unfolding time_at clock_on
two_days_at_three = refl

two_days : LeadsTo civil_days base Uk (Relative (Days (pos 2))) None (Some (AtWall (pos 1521802800) 0))
two_days = refl

-- hours past 23 move the day on, microseconds are kept as nanoseconds, and a written offset gives the second itself
hour_25 : clock_on civil_days (clock 25 0 0 0) (pos 17622) ≡ Some (AtWall (pos 1522630800) 0)
unfolding time_at clock_on
hour_25 = refl

fraction : clock_on civil_days (clock 20 0 0 5) (pos 17613) ≡ Some (AtWall (pos 1521835200) 5000)
unfolding time_at clock_on
fraction = refl

written_offset : clock_on civil_days (with_offset (clock 8 20 30 0) (pos 14400)) (pos 17347) ≡ Some (AtSecond (pos 1498796430) 0)
unfolding time_at clock_on
written_offset = refl

minute_75 : clock_on civil_days (clock 12 75 0 0) (pos 17611) ≡ None
unfolding time_at clock_on
minute_75 = refl
