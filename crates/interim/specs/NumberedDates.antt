-- A date that is written in numbers, with dashes or slashes (docs/GRAMMAR.md, "The date part").
use Rattle.std.specs.Prelude.{ℕ, Bool, true, false}
use Rattle.interim.specs.declared.errors.Expected.TheVariants as expected
use Rattle.interim.specs.declared.types.Dialect.{Dialect}
use Rattle.interim.specs.declared.types.Dialect.TheVariants.{Uk, Us}
use Rattle.interim.specs.declared.types.Direction.{Direction}
use Rattle.interim.specs.declared.date_part.Opening.{Opening}
use Rattle.interim.specs.declared.date_part.Opening.TheVariants.{Bare, Minus, Directed}
use Rattle.interim.specs.declared.date_part.DatePart.{DatePart}
use Rattle.interim.specs.Steps.{Step, ◌>>=◌, pure}
use Rattle.interim.specs.NextTokens.{ended}
use Rattle.interim.specs.ReadingSteps.{number, dash, follows, pass_over}
use Rattle.interim.specs.TokenTests.{is_slash}
use Rattle.interim.specs.Parts.{full_year}
use Rattle.interim.specs.DateForms.{dated, absolute, day_and_month}

-- the end behind a number
abbrev pub number_alone : Opening → ℕ → Step DatePart
number_alone Bare n = pure (dated (absolute n 1 1))
number_alone Minus n = ended expected.DurationWord
number_alone (Directed direction) n = ended expected.DayOrMonth

-- year, month and day with dashes, behind the first dash
unfoldable pub dashed : ℕ → Step DatePart
dashed year = do
  month ← number
  _ ← dash
  day ← number
  pure (dated (absolute year month day))

-- the first two numbers are day and month in `Uk`, and month and day in `Us`
abbrev pub day_of_pair : Dialect → ℕ → ℕ → ℕ
day_of_pair Uk first second = first
day_of_pair Us first second = second

-- the month of two numbers with a slash: the second in British, the first in American order
abbrev pub month_of_pair : Dialect → ℕ → ℕ → ℕ
month_of_pair Uk first second = second
month_of_pair Us first second = first

-- behind day and month: a year behind a second slash, or none
abbrev pub slashed_end : ℕ → ℕ → Direction → Bool → Step DatePart
slashed_end month day direction true = (do
  year ← number
  pure (dated (absolute (full_year year) month day)))
slashed_end month day direction false = pure (dated (day_and_month day month direction))

-- day and month with a slash, perhaps with another and a year, behind the first slash
unfoldable pub slashed : Dialect → Direction → ℕ → Step DatePart
slashed dialect direction first = do
  second ← number
  has_year ← follows is_slash
  slashed_end (month_of_pair dialect first second) (day_of_pair dialect first second) direction has_year

-- a day and a month without a year; a token behind them is passed over
abbrev pub year_missing : ℕ → ℕ → Direction → Step DatePart
year_missing day month direction = do
  _ ← pass_over
  pure (dated (day_and_month day month direction))
