-- Where a phrase's parts lead from a wall time (docs/GRAMMAR.md, "The meaning").
use Rattle.std.specs.Prelude.{◌≡◌, ℕ, Option, Some, None, option_and_then, ℤ, ◌+ℤ◌}
use Rattle.civil.specs.Months.{months_on}
use Rattle.interim.specs.declared.types.Dialect.{Dialect}
use Rattle.interim.specs.declared.types.Interval.TheVariants.{Seconds, Days, Months}
use Rattle.interim.specs.declared.types.DateSpec.{DateSpec}
use Rattle.interim.specs.declared.types.DateSpec.TheVariants.{Absolute, Relative, FromName}
use Rattle.interim.specs.declared.types.TimeSpec.{TimeSpec}
use Rattle.interim.specs.Refusal.{Ends, within}
use Rattle.interim.specs.DatesAndTimes.{date_at, IsDateOn}
use Rattle.interim.specs.Aims.{Aim, clock_on, clock_or, midnight}
use Rattle.interim.specs.Walls.{Wall}
use Rattle.interim.specs.NamedDates.{IsNamed}

-- where the parts lead from the base's wall time; an interval of seconds needs none
abbrev pub LeadsTo : Ends → Wall → Dialect → DateSpec → Option TimeSpec → Option Aim → Type 0
LeadsTo days base dialect (Absolute date) clock found =
    found ≡ option_and_then (clock_or days midnight clock) (date_at days date.year date.month date.day)
LeadsTo days base dialect (Relative (Seconds n)) clock found = ⊥
LeadsTo days base dialect (Relative (Days n)) clock found =
    found ≡ option_and_then (clock_or days base.time clock) (within days (base.day +ℤ n))
LeadsTo days base dialect (Relative (Months n)) clock found =
    (y : ℤ) × (m : ℕ) × (d : ℕ) × IsDateOn base.day y m d
    × (found ≡ option_and_then (clock_or days midnight clock) (within days (months_on y m d n)))
LeadsTo days base dialect (FromName name direction) clock found =
    (day : Option ℤ) × IsNamed days base dialect clock name direction day × (found ≡ option_and_then (clock_or days midnight clock) day)

-- without a date part the date is the base's; without a clock time too there is no meaning
abbrev pub PartsLeadTo : Ends → Wall → Dialect → Option DateSpec → Option TimeSpec → Option Aim → Type 0
PartsLeadTo days base dialect (Some date) clock found = LeadsTo days base dialect date clock found
PartsLeadTo days base dialect None (Some clock) found = found ≡ clock_on days clock base.day
PartsLeadTo days base dialect None None found = found ≡ None
