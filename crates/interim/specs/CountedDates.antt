-- A day of a month, and counts of units (docs/GRAMMAR.md, "The date part").
use Rattle.std.specs.Prelude.{ℕ, pos, neg_ℤ, Option, Some, None, if◌then◌else◌}
use Rattle.interim.specs.declared.errors.Expected.TheVariants as expected
use Rattle.interim.specs.declared.types.Direction.{Direction}
use Rattle.interim.specs.declared.types.Interval.{Interval}
use Rattle.interim.specs.declared.types.DateSpec.TheVariants.{Relative}
use Rattle.interim.specs.declared.date_part.Opening.{Opening}
use Rattle.interim.specs.declared.date_part.Opening.TheVariants.{Bare, Minus, Directed}
use Rattle.interim.specs.declared.date_part.DatePart.{DatePart}
use Rattle.interim.specs.declared.time_part.ClockFront.{ClockFront}
use Rattle.interim.specs.declared.time_part.ClockFront.TheVariants.{Nothing, OpenHour}
use Rattle.interim.specs.TokenKinds.{Token, Kind, Number, Word}
use Rattle.interim.specs.Steps.{Step, ◌>>=◌, pure}
use Rattle.interim.specs.NextTokens.{refuse, given, next, peek}
use Rattle.interim.specs.ReadingSteps.{following_number, pass_over}
use Rattle.interim.specs.Intervals.{scaled}
use Rattle.interim.specs.Words.{is_ago}
use Rattle.interim.specs.DateForms.{dated, absolute}
use Rattle.interim.specs.NumberedDates.{year_missing}

-- a day and a month: a number that follows is the year
unfoldable pub day_month : ℕ → ℕ → Direction → Step DatePart
day_month day month direction = following_number >>= λ year. given year (λ y. pure (dated (absolute y month day))) (year_missing day month direction)

-- so many times a unit, before the base
abbrev pub times_back : Interval → ℕ → DatePart
times_back unit n = dated (Relative (scaled unit (neg_ℤ (pos n))))

-- so many times a unit, after the base, with a clock time's front
abbrev pub times_on : Interval → ℕ → ClockFront → DatePart
times_on unit n clock = record { date = Some (Relative (scaled unit (pos n))); clock = clock }

-- a unit with no clock time in sight passes over a token
abbrev pub unit_alone : Interval → ℕ → Step DatePart
unit_alone unit n = do
  _ ← pass_over
  pure (times_on unit n Nothing)

-- behind a unit: `ago`, the hour of a clock time, or what is passed over
abbrev pub unit_then_kind : Interval → ℕ → Token → Kind → Step DatePart
unit_then_kind unit n t (Word word) = (do
  _ ← next
  if is_ago word then pure (times_back unit n) else refuse expected.Ago t)
unit_then_kind unit n t (Number hour) = (do
  _ ← next
  pure (times_on unit n (OpenHour hour)))
unit_then_kind unit n t other = unit_alone unit n

-- the same with the next token, if there is one
abbrev pub unit_then : Interval → ℕ → Option Token → Step DatePart
unit_then unit n None = unit_alone unit n
unit_then unit n (Some t) = unit_then_kind unit n t t.kind

-- a number of units: back before `ago`, else on, and then perhaps an open hour; any other token is passed over
unfoldable pub units_on : Interval → ℕ → Step DatePart
units_on unit n = peek >>= unit_then unit n

-- and back with a minus
abbrev pub units : Opening → Interval → ℕ → Step DatePart
units Minus unit n = pure (times_back unit n)
units Bare unit n = units_on unit n
units (Directed direction) unit n = units_on unit n
