-- What the steps from a phrase's parts to a moment speak of.
use Rattle.std.specs.Prelude.{Option, Some, None}
use Rattle.interim.specs.declared.datetime.Refused.{Refused}
use Rattle.interim.specs.declared.datetime.Refused.TheVariants.{OutOfRange, Memory}
use Rattle.interim.specs.declared.errors.DateError.{DateError}
use Rattle.interim.specs.declared.errors.DateError.TheVariants as errors
use Rattle.interim.specs.declared.types.DateSpec.{DateSpec}
use Rattle.interim.specs.declared.types.DateSpec.TheVariants.{Absolute, Relative, FromName}
use Rattle.interim.specs.declared.types.Interval.TheVariants.{Seconds, Days, Months}

-- all date parts but an interval of seconds
abbrev pub IsFromWall : DateSpec → Type 0
IsFromWall (Relative (Seconds n)) = ⊥
IsFromWall (Relative (Days n)) = Unit {0}
IsFromWall (Relative (Months n)) = Unit {0}
IsFromWall (Absolute date) = Unit {0}
IsFromWall (FromName name direction) = Unit {0}

-- what is told of a refusal: want of memory, or that the date, or else the time, is missing
abbrev pub refusal_of : Refused → Option DateSpec → DateError
refusal_of Memory date = errors.Memory
refusal_of OutOfRange (Some date) = errors.MissingDate
refusal_of OutOfRange None = errors.MissingTime
