-- The date part of a phrase (docs/GRAMMAR.md, "The date part").
pub use Rattle.interim.specs.DateForms.{dated, timed, absolute, day_and_month, direction_in}
pub use Rattle.interim.specs.WordHeads.{month_and_day, month_alone, month_head, directed_count, word_head}
pub use Rattle.interim.specs.NumberedDates.{number_alone, dashed, day_of_pair, month_of_pair, slashed_end, slashed, year_missing}
pub use Rattle.interim.specs.CountedDates.{day_month, times_back, times_on, unit_alone, unit_then_kind, unit_then, units_on, units}
pub use Rattle.interim.specs.NumberHeads.{number_then_word, undirected, number_then_kind, number_head}
use Rattle.std.specs.Prelude.{ℕ, List, Option, Some, None}
use Rattle.interim.specs.declared.errors.Expected.TheVariants as expected
use Rattle.interim.specs.declared.errors.DateError.TheVariants.{MissingDate}
use Rattle.interim.specs.declared.types.Dialect.{Dialect}
use Rattle.interim.specs.declared.types.Direction.TheVariants.{Here}
use Rattle.interim.specs.declared.types.Interval.TheVariants.{Days}
use Rattle.interim.specs.declared.types.DateSpec.TheVariants.{Relative}
use Rattle.interim.specs.declared.date_part.Opening.{Opening}
use Rattle.interim.specs.declared.date_part.Opening.TheVariants.{Bare, Minus, Directed}
use Rattle.interim.specs.declared.date_part.DatePart.{DatePart}
use Rattle.interim.specs.TokenKinds.{Token, Kind, Number, Word, Dash}
use Rattle.interim.specs.Steps.{Step, ◌>>=◌, pure, stop}
use Rattle.interim.specs.NextTokens.{refuse, ended, given, next}
use Rattle.interim.specs.Words.{day_of_word, direction_of}

-- a word behind a sign, behind nothing, or behind a direction
abbrev pub signed_word_head : Opening → Token → List ℕ → Step DatePart
signed_word_head Minus t word = refuse expected.Number t
signed_word_head Bare t word = word_head Here t word
signed_word_head (Directed direction) t word = word_head direction t word

-- what a date begins with: a number or a word
abbrev pub head_kind : Dialect → Opening → Token → Kind → Step DatePart
head_kind dialect opening t (Number n) = next >>= number_head dialect opening n
head_kind dialect opening t (Word word) = signed_word_head opening t word
head_kind dialect opening t other = stop MissingDate

-- the head: a word, or a number
unfoldable pub head : Dialect → Opening → Option Token → Step DatePart
head dialect opening None = ended expected.EmptyDate
head dialect opening (Some t) = head_kind dialect opening t t.kind

-- a day that is the whole date part, a direction, or the head itself
abbrev pub first_word : Dialect → Token → List ℕ → Step DatePart
first_word dialect t word =
    given (day_of_word word) (λ days. pure (dated (Relative (Days days)))) (
    given (direction_of word) (λ direction. next >>= head dialect (Directed direction))
    (head dialect Bare (Some t)))

-- what a phrase begins with: a minus, a direction, or a date
abbrev pub first_kind : Dialect → Token → Kind → Step DatePart
first_kind dialect t Dash = next >>= head dialect Minus
first_kind dialect t (Word word) = first_word dialect t word
first_kind dialect t other = head dialect Bare (Some t)

-- the first token: a minus, a word, or the head
unfoldable pub first : Dialect → Option Token → Step DatePart
first dialect None = head dialect Bare None
first dialect (Some t) = first_kind dialect t t.kind

-- the first token and those that belong to it
unfoldable pub date_part : Dialect → Step DatePart
date_part dialect = next >>= first dialect
