-- A date part that begins with a number (docs/GRAMMAR.md, "The date part").
use Rattle.std.specs.Prelude.{ℕ, List, Option, Some, None}
use Rattle.interim.specs.declared.errors.Expected.TheVariants as expected
use Rattle.interim.specs.declared.types.Dialect.{Dialect}
use Rattle.interim.specs.declared.date_part.Opening.{Opening}
use Rattle.interim.specs.declared.date_part.Opening.TheVariants.{Bare, Minus, Directed}
use Rattle.interim.specs.declared.date_part.DatePart.{DatePart}
use Rattle.interim.specs.declared.time_part.ClockFront.TheVariants.{FormalHour, InformalHour, LoneHour}
use Rattle.interim.specs.TokenKinds.{Token, Kind, Word, Dash, Slash, Colon, Dot}
use Rattle.interim.specs.Steps.{Step, pure}
use Rattle.interim.specs.NextTokens.{refuse, ended, given}
use Rattle.interim.specs.Words.{month_of, unit_of, half_of}
use Rattle.interim.specs.Parts.{shifted}
use Rattle.interim.specs.DateForms.{timed, direction_in}
use Rattle.interim.specs.NumberedDates.{number_alone, dashed, slashed}
use Rattle.interim.specs.CountedDates.{day_month, units}

-- a word behind a number: a month, a unit, am or pm, or another word
unfoldable pub number_then_word : Opening → ℕ → Token → List ℕ → Step DatePart
number_then_word opening n t word =
    given (month_of word) (λ month. day_month n month (direction_in opening)) (
    given (unit_of word) (λ unit. units opening unit n) (
    given (half_of word) (λ half. pure (timed (LoneHour (shifted half n))))
    (refuse expected.MonthOrUnit t)))

-- a direction asks for a day or a month; it is as if the text had ended
abbrev pub undirected : Opening → Step DatePart → Step DatePart
undirected Bare part = part
undirected Minus part = part
undirected (Directed direction) part = ended expected.DayOrMonth

-- behind a number: a word, a colon or a dot of a clock time, a dash or a slash of a date
abbrev pub number_then_kind : Dialect → Opening → ℕ → Token → Kind → Step DatePart
number_then_kind dialect opening n t (Word word) = number_then_word opening n t word
number_then_kind dialect opening n t Colon = undirected opening (pure (timed (FormalHour n)))
number_then_kind dialect opening n t Dot = undirected opening (pure (timed (InformalHour n)))
number_then_kind dialect opening n t Dash = undirected opening (dashed n)
number_then_kind dialect opening n t Slash = slashed dialect (direction_in opening) n
number_then_kind dialect opening n t other = refuse expected.DateWord t

-- a number at the head, by the token behind it
unfoldable pub number_head : Dialect → Opening → ℕ → Option Token → Step DatePart
number_head dialect opening n None = number_alone opening n
number_head dialect opening n (Some t) = number_then_kind dialect opening n t t.kind
