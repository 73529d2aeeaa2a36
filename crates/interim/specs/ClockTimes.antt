-- The formal time, hour:minute, and the informal one, hour.minute (docs/GRAMMAR.md, "The time part").
use Rattle.std.specs.Prelude.{ℕ, Option, Some, None}
use Rattle.interim.specs.declared.errors.Expected.TheVariants as expected
use Rattle.interim.specs.declared.types.TimeSpec.{TimeSpec}
use Rattle.interim.specs.TokenKinds.{Token, Kind, Number, Word, Colon}
use Rattle.interim.specs.Steps.{Step, ◌>>=◌, pure}
use Rattle.interim.specs.NextTokens.{refuse, given, next}
use Rattle.interim.specs.ReadingSteps.{number}
use Rattle.interim.specs.Words.{half_of}
use Rattle.interim.specs.Parts.{clock, in_half}
use Rattle.interim.specs.TimeEnds.{fraction, closing}

-- what stands behind the minute, by its kind
abbrev pub after_minute_kind : ℕ → ℕ → Token → Kind → Step TimeSpec
after_minute_kind hour minute t Colon = (do
  second ← number
  microsec ← fraction
  last ← next
  closing (clock hour minute second microsec) last)
after_minute_kind hour minute t (Word word) = closing (clock hour minute 0 0) (Some t)
after_minute_kind hour minute t (Number n) = closing (clock hour minute 0 0) (Some t)
after_minute_kind hour minute t other = refuse expected.ColonMark t

-- after the minute: a colon and a second, or what closes the time
unfoldable pub after_minute : ℕ → ℕ → Option Token → Step TimeSpec
after_minute hour minute None = closing (clock hour minute 0 0) None
after_minute hour minute (Some t) = after_minute_kind hour minute t t.kind

-- behind an hour and a colon
unfoldable pub formal : ℕ → Step TimeSpec
formal hour = do
  minute ← number
  t ← next
  after_minute hour minute t

-- am or pm behind the minutes of an informal time
abbrev pub informal_kind : TimeSpec → Token → Kind → Step TimeSpec
informal_kind time t (Word word) = given (half_of word) (λ half. pure (in_half half time)) (refuse expected.DotAmPm t)
informal_kind time t other = refuse expected.DotAmPm t

-- what closes an informal time: the end, am or pm
unfoldable pub informal_close : TimeSpec → Option Token → Step TimeSpec
informal_close time None = pure time
informal_close time (Some t) = informal_kind time t t.kind

-- behind an hour and a dot
unfoldable pub informal : ℕ → Step TimeSpec
informal hour = do
  minute ← number
  t ← next
  informal_close (clock hour minute 0 0) t
