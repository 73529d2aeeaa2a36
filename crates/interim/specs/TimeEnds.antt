-- What stands behind the minute of a formal time: a fraction, an offset, am or pm (docs/GRAMMAR.md, "The time part").
use Rattle.std.specs.Prelude.{ℕ, ◌+◌, ◌*◌, ◌/◌, ◌%◌, Bool, true, false, ℤ, pos, neg_ℤ, List, Option, Some, None, if◌then◌else◌}
use Rattle.interim.specs.declared.errors.Expected.TheVariants as expected
use Rattle.interim.specs.declared.types.TimeSpec.{TimeSpec}
use Rattle.interim.specs.TokenKinds.{Token, Kind, Word, Dash, Plus}
use Rattle.interim.specs.Steps.{Step, ◌>>=◌, pure}
use Rattle.interim.specs.NextTokens.{refuse, given}
use Rattle.interim.specs.ReadingSteps.{number, follows}
use Rattle.interim.specs.TokenTests.{is_colon, is_dot}
use Rattle.interim.specs.Words.{half_of, is_z}
use Rattle.interim.specs.Parts.{with_offset, in_half}

-- a fraction of a second, in microseconds: after a dot a number is needed, and counts by its value
unfoldable pub fraction : Step ℕ
fraction = do
  has_fraction ← follows is_dot
  if has_fraction then number else pure 0

-- hours and minutes as seconds, west of Greenwich below zero
abbrev pub offset_seconds : Bool → ℕ → ℕ → ℤ
offset_seconds is_west hours minutes =
    let seconds = pos (60 * (minutes + 60 * hours)) in if is_west then neg_ℤ seconds else seconds

-- an offset behind its sign: hours, a colon and minutes, or both in one number, the last two digits the minutes
unfoldable pub written_offset : Bool → Step ℤ
written_offset is_west = do
  hours ← number
  has_minutes ← follows is_colon
  if has_minutes then (do
    minutes ← number
    pure (offset_seconds is_west hours minutes)) else pure (offset_seconds is_west (hours / 100) (hours % 100))

-- the word z is offset 0; or am or pm
abbrev pub closing_word : TimeSpec → Token → List ℕ → Step TimeSpec
closing_word time t word =
    if is_z word then pure (with_offset time (pos 0)) else given (half_of word) (λ half. pure (in_half half time)) (refuse expected.ZAmPm t)

-- what closes a formal time, by its kind: an offset behind a sign, or a word
abbrev pub closing_kind : TimeSpec → Token → Kind → Step TimeSpec
closing_kind time t Plus = written_offset false >>= λ offset. pure (with_offset time offset)
closing_kind time t Dash = written_offset true >>= λ offset. pure (with_offset time offset)
closing_kind time t (Word word) = closing_word time t word
closing_kind time t other = refuse expected.ZoneWord t

-- what closes a formal time: the end, an offset, the word z for offset 0, am or pm
unfoldable pub closing : TimeSpec → Option Token → Step TimeSpec
closing time None = pure time
closing time (Some t) = closing_kind time t t.kind
