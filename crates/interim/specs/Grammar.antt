-- A phrase as its parts, or as its first fault (docs/GRAMMAR.md, "Parts").
use Rattle.std.specs.Prelude.{List, Option, Some, None, Result, Ok, Err}
use Rattle.interim.specs.declared.errors.DateError.{DateError}
use Rattle.interim.specs.declared.errors.DateError.TheVariants.{UnexpectedTime, UnexpectedAbsoluteDate, UnexpectedDate}
use Rattle.interim.specs.declared.types.Dialect.{Dialect}
use Rattle.interim.specs.declared.types.Dialect.TheVariants.{Uk}
use Rattle.interim.specs.declared.types.Interval.{Interval}
use Rattle.interim.specs.declared.types.DateSpec.{DateSpec}
use Rattle.interim.specs.declared.types.DateSpec.TheVariants.{Absolute, Relative, FromName}
use Rattle.interim.specs.declared.types.TimeSpec.{TimeSpec}
use Rattle.interim.specs.declared.types.DateTimeSpec.{DateTimeSpec}
use Rattle.interim.specs.declared.time_part.ClockFront.TheVariants.{Nothing}
use Rattle.interim.specs.TokenKinds.{Token}
use Rattle.interim.specs.Steps.{Outcome, Step, ◌>>=◌, pure}
use Rattle.interim.specs.DatePart.{date_part}
use Rattle.interim.specs.TimePart.{time_part}

-- what was read; the tokens that are left are not read
abbrev pub read_of : {A : Type 0} → Outcome A → Result A DateError
read_of (Ok p) = Ok p.0
read_of (Err e) = Err e

-- a date part, then a time part
unfoldable pub both_parts : Dialect → Step DateTimeSpec
both_parts dialect = do
  part ← date_part dialect
  time ← time_part part.clock
  pure (record { date = part.date; time = time })

-- the parts of a phrase, or its first fault
unfoldable pub parts_of : Dialect → List Token → Result DateTimeSpec DateError
parts_of dialect ts = read_of (both_parts dialect ts)

-- the time part alone, from the front
unfoldable pub time_of : List Token → Result (Option TimeSpec) DateError
time_of ts = read_of (time_part Nothing ts)

-- ---- a duration

-- a part without a date has a time
abbrev pub interval_in : Option DateSpec → Option TimeSpec → Result Interval DateError
interval_in date (Some time) = Err UnexpectedTime
interval_in None None = Err UnexpectedTime
interval_in (Some (Absolute date)) None = Err UnexpectedAbsoluteDate
interval_in (Some (FromName name direction)) None = Err UnexpectedDate
interval_in (Some (Relative interval)) None = Ok interval

-- the interval that parts name, or the fault of the parts or of what they are
abbrev pub interval_of : Result DateTimeSpec DateError → Result Interval DateError
interval_of (Err e) = Err e
interval_of (Ok parts) = interval_in parts.date parts.time

-- the interval that a phrase names, read as `Uk`
unfoldable pub duration_of : List Token → Result Interval DateError
duration_of ts = interval_of (parts_of Uk ts)
