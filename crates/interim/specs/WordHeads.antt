-- A date part that begins with a word (docs/GRAMMAR.md, "The date part").
use Rattle.std.specs.Prelude.{ℕ, ℤ, pos, negsuc, List, if◌then◌else◌}
use Rattle.interim.specs.declared.errors.Expected.TheVariants as expected
use Rattle.interim.specs.declared.types.Direction.{Direction}
use Rattle.interim.specs.declared.types.Direction.TheVariants.{Next, Last, Here}
use Rattle.interim.specs.declared.types.ByName.TheVariants as by_name
use Rattle.interim.specs.declared.types.DateSpec.TheVariants.{Relative, FromName}
use Rattle.interim.specs.declared.date_part.DatePart.{DatePart}
use Rattle.interim.specs.TokenKinds.{Token}
use Rattle.interim.specs.Steps.{Step, ◌>>=◌, pure}
use Rattle.interim.specs.NextTokens.{refuse, given}
use Rattle.interim.specs.ReadingSteps.{number, follows, following_number, pass_over}
use Rattle.interim.specs.TokenTests.{is_comma}
use Rattle.interim.specs.Intervals.{scaled}
use Rattle.interim.specs.Words.{month_of, weekday_of, unit_of}
use Rattle.interim.specs.DateForms.{dated, absolute, day_and_month}

-- a day behind a month; a comma brings a year
abbrev pub month_and_day : ℕ → Direction → ℕ → Step DatePart
month_and_day month direction day = do
  has_year ← follows is_comma
  if has_year then (do
    year ← number
    pure (dated (absolute year month day))) else pure (dated (day_and_month day month direction))

-- a month without a day; a token behind it is passed over
abbrev pub month_alone : ℕ → Direction → Step DatePart
month_alone month direction = do
  _ ← pass_over
  pure (dated (FromName (by_name.MonthName month) direction))

-- a month at the head: a number that follows is its day
unfoldable pub month_head : ℕ → Direction → Step DatePart
month_head month direction = following_number >>= λ day. given day (month_and_day month direction) (month_alone month direction)

-- a unit at the head is one of it with `next`, one back with `last`, and none else
abbrev pub directed_count : Direction → ℤ
directed_count Next = pos 1
directed_count Last = negsuc 0
directed_count Here = pos 0

-- a word at the head: a month, a day of the week, a unit, or another word
unfoldable pub word_head : Direction → Token → List ℕ → Step DatePart
word_head direction t word =
    given (month_of word) (λ month. month_head month direction) (
    given (weekday_of word) (λ weekday. pure (dated (FromName (by_name.WeekDay weekday) direction))) (
    given (unit_of word) (λ unit. pure (dated (Relative (scaled unit (directed_count direction)))))
    (refuse expected.Identifier t)))
