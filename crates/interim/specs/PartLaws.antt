-- What holds of the parts that are read of a phrase (docs/GRAMMAR.md, "Parts").
use Rattle.std.specs.Prelude.{ℕ, ◌<◌, ◌≤◌, pos, ◌≤ℤ◌, List, length, IsSome, MatchResult, MatchOption, unsigned_abs}
use Rattle.interim.specs.declared.errors.DateError.{DateError}
use Rattle.interim.specs.declared.errors.DateError.TheVariants as error
use Rattle.interim.specs.declared.types.AbsDate.{AbsDate}
use Rattle.interim.specs.declared.types.ByName.{ByName}
use Rattle.interim.specs.declared.types.ByName.TheVariants as by_name
use Rattle.interim.specs.declared.types.DateSpec.{DateSpec}
use Rattle.interim.specs.declared.types.DateSpec.TheVariants.{Absolute, Relative, FromName}
use Rattle.interim.specs.declared.types.DateTimeSpec.{DateTimeSpec}
use Rattle.interim.specs.declared.types.Dialect.{Dialect}
use Rattle.interim.specs.declared.types.TimeSpec.{TimeSpec}
use Rattle.interim.specs.Grammar.{parts_of, time_of}
use Rattle.interim.specs.Intervals.{count_of}
use Rattle.interim.specs.Tokens.{phrase_tokens}

-- the numbers of a clock time, with an hour that pm may have shifted
pub record IsSmallTime (time : TimeSpec) : Type 0 where
  pub hour : time.hour < 10012
  pub min : time.min < 10000
  pub sec : time.sec < 10000
  pub microsec : time.microsec < 1000000
  pub offset : MatchOption time.offset (Unit {0}) (λ o. unsigned_abs o ≤ 36596340)

-- a date's numbers have at most four digits
pub record IsSmallDate (date : AbsDate) : Type 0 where
  pub first_year : pos 0 ≤ℤ date.year
  pub last_year : date.year ≤ℤ pos 9999
  pub month : date.month < 10000
  pub day : date.day < 10000

-- a weekday of seven, a month of twelve, or numbers of at most four digits
abbrev pub IsSmallName : ByName → Type 0
IsSmallName (by_name.WeekDay n) = n ≤ 6
IsSmallName (by_name.MonthName n) = (1 ≤ n) × (n ≤ 12)
IsSmallName (by_name.DayMonth day month) = (day < 10000) × (month < 10000)

-- the numbers of a date, an interval or a name are small
abbrev pub IsSmall : DateSpec → Type 0
IsSmall (Absolute date) = IsSmallDate date
IsSmall (Relative interval) = unsigned_abs (count_of interval) ≤ 35996400
IsSmall (FromName name direction) = IsSmallName name

-- the numbers are small, and without a date there is a time
pub record AreSmallParts (parts : DateTimeSpec) : Type 0 where
  pub date : MatchOption parts.date (IsSome parts.time) IsSmall
  pub time : MatchOption parts.time (Unit {0}) IsSmallTime

-- a fault of reading: at a token inside the phrase, at its end, or no date
abbrev pub IsFaultIn : ℕ → DateError → Type 0
IsFaultIn end (error.ExpectedToken e s) = (s.start < s.end) × (s.end ≤ end)
IsFaultIn end (error.EndOfText e) = Unit {0}
IsFaultIn end error.MissingDate = Unit {0}
IsFaultIn end other = ⊥

-- what is read of a phrase has small numbers, or is refused at a place in the phrase
abbrev pub PartsAreSound : Type 0
PartsAreSound = (dialect : Dialect) (phrase : List ℕ) → MatchResult (parts_of dialect (phrase_tokens phrase)) AreSmallParts (IsFaultIn (length phrase))

-- and so of a clock time alone
abbrev pub TimesAreSound : Type 0
TimesAreSound = (phrase : List ℕ) → MatchResult (time_of (phrase_tokens phrase)) (λ time. MatchOption time (Unit {0}) IsSmallTime) (IsFaultIn (length phrase))
