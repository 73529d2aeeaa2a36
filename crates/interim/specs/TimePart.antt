-- The time part of a phrase (docs/GRAMMAR.md, "The time part").
pub use Rattle.interim.specs.TimeEnds.{fraction, offset_seconds, written_offset, closing_word, closing_kind, closing}
pub use Rattle.interim.specs.ClockTimes.{after_minute_kind, after_minute, formal, informal_kind, informal_close, informal}
pub use Rattle.interim.specs.OpenHours.{open_hour_kind, open_hour, after_hour_kind, after_hour}
use Rattle.std.specs.Prelude.{Bool, false, Option, Some, None}
use Rattle.interim.specs.declared.errors.Expected.TheVariants as expected
use Rattle.interim.specs.declared.types.TimeSpec.{TimeSpec}
use Rattle.interim.specs.declared.time_part.ClockFront.{ClockFront}
use Rattle.interim.specs.declared.time_part.ClockFront.TheVariants.{Nothing, OpenHour, FormalHour, InformalHour, LoneHour}
use Rattle.interim.specs.TokenKinds.{Token, Kind, Number, Word}
use Rattle.interim.specs.Steps.{Step, ◌>>=◌, pure}
use Rattle.interim.specs.NextTokens.{refuse, next}
use Rattle.interim.specs.ReadingSteps.{follows}
use Rattle.interim.specs.Words.{is_capital_t}
use Rattle.interim.specs.Parts.{clock}

-- the kind is the word T
abbrev pub kind_is_capital_t : Kind → Bool
kind_is_capital_t (Word word) = is_capital_t word
kind_is_capital_t other = false

-- a step that answers a time, and takes no token
abbrev pub some_time : TimeSpec → Step (Option TimeSpec)
some_time time = pure (Some time)

-- a number is an hour, and a time begins with it
abbrev pub hour_kind : Token → Kind → Step (Option TimeSpec)
hour_kind t (Number hour) = (do
  last ← next
  time ← after_hour hour last
  some_time time)
hour_kind t other = refuse expected.Number t

-- the same of the next token; at the end there is no time
abbrev pub hour_or_end : Option Token → Step (Option TimeSpec)
hour_or_end None = pure None
hour_or_end (Some t) = hour_kind t t.kind

-- a time part of which nothing was read: perhaps a capital T, then the end, or an hour
unfoldable pub whole_time : Step (Option TimeSpec)
whole_time = do
  _ ← follows kind_is_capital_t
  t ← next
  hour_or_end t

-- the time part, from what the date part has read of it
unfoldable pub time_part : ClockFront → Step (Option TimeSpec)
time_part Nothing = whole_time
time_part (OpenHour hour) = (next >>= open_hour hour) >>= some_time
time_part (FormalHour hour) = formal hour >>= some_time
time_part (InformalHour hour) = informal hour >>= some_time
time_part (LoneHour hour) = some_time (clock hour 0 0 0)
