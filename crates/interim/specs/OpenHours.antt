-- An hour, and what it begins (docs/GRAMMAR.md, "The time part").
use Rattle.std.specs.Prelude.{ℕ, Option, Some, None}
use Rattle.interim.specs.declared.errors.Expected.TheVariants as expected
use Rattle.interim.specs.declared.types.TimeSpec.{TimeSpec}
use Rattle.interim.specs.TokenKinds.{Token, Kind, Word, Colon, Dot}
use Rattle.interim.specs.Steps.{Step, pure}
use Rattle.interim.specs.NextTokens.{refuse, ended, given}
use Rattle.interim.specs.Words.{half_of}
use Rattle.interim.specs.Parts.{clock, shifted}
use Rattle.interim.specs.ClockTimes.{formal, informal}

-- a colon or a dot behind an hour
abbrev pub open_hour_kind : ℕ → Token → Kind → Step TimeSpec
open_hour_kind hour t Colon = formal hour
open_hour_kind hour t Dot = informal hour
open_hour_kind hour t other = refuse expected.ColonOrDot t

-- an hour behind a number of units wants a colon or a dot
unfoldable pub open_hour : ℕ → Option Token → Step TimeSpec
open_hour hour None = ended expected.ColonOrDot
open_hour hour (Some t) = open_hour_kind hour t t.kind

-- a colon, a dot, am or pm behind an hour
abbrev pub after_hour_kind : ℕ → Token → Kind → Step TimeSpec
after_hour_kind hour t Colon = formal hour
after_hour_kind hour t Dot = informal hour
after_hour_kind hour t (Word word) = given (half_of word) (λ half. pure (clock (shifted half hour) 0 0 0)) (refuse expected.AmPm t)
after_hour_kind hour t other = refuse expected.AmPmColonDot t

-- the hour of a time part wants a colon, a dot, am or pm
unfoldable pub after_hour : ℕ → Option Token → Step TimeSpec
after_hour hour None = ended expected.AmPmColonDot
after_hour hour (Some t) = after_hour_kind hour t t.kind
