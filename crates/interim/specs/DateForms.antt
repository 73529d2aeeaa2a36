-- What a date part gives: a date, or the front of a time part (docs/GRAMMAR.md, "The date part").
use Rattle.std.specs.Prelude.{ℕ, Some, None}
use Rattle.interim.specs.declared.types.Direction.{Direction}
use Rattle.interim.specs.declared.types.Direction.TheVariants.{Here}
use Rattle.interim.specs.declared.types.ByName.TheVariants as by_name
use Rattle.interim.specs.declared.types.DateSpec.{DateSpec}
use Rattle.interim.specs.declared.types.DateSpec.TheVariants.{Absolute, FromName}
use Rattle.interim.specs.declared.date_part.Opening.{Opening}
use Rattle.interim.specs.declared.date_part.Opening.TheVariants.{Bare, Minus, Directed}
use Rattle.interim.specs.declared.date_part.DatePart.{DatePart}
use Rattle.interim.specs.declared.time_part.ClockFront.{ClockFront}
use Rattle.interim.specs.declared.time_part.ClockFront.TheVariants.{Nothing}
use Rattle.interim.specs.Parts.{date_of}

-- a date, and nothing read of the time part
abbrev pub dated : DateSpec → DatePart
dated date = record { date = Some date; clock = Nothing }

-- no date, but the front of a time part
abbrev pub timed : ClockFront → DatePart
timed clock = record { date = None; clock = clock }

-- a day that is written out
abbrev pub absolute : ℕ → ℕ → ℕ → DateSpec
absolute year month day = Absolute (date_of year month day)

-- a day of a month of no year
abbrev pub day_and_month : ℕ → ℕ → Direction → DateSpec
day_and_month day month direction = FromName (by_name.DayMonth day month) direction

-- a name without a direction has `Here`
abbrev pub direction_in : Opening → Direction
direction_in Bare = Here
direction_in Minus = Here
direction_in (Directed direction) = direction
