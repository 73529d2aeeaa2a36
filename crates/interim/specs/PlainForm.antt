-- The plain form of a phrase: a date in one of four shapes, perhaps a capital T, and a clock time in one of four shapes
-- (docs/GRAMMAR.md, "The plain form").
use Rattle.std.specs.Prelude.{◌≡◌, ℕ, ◌<◌, ℤ, Bool, List, [], ◌∷◌, ◌++◌, Option, Some, codes, if◌then◌else◌}
use Rattle.civil.specs.CivilDates.{IsDate}
use Rattle.civil.specs.Calendar.{day_of, wall_second}
use Rattle.interim.specs.declared.types.AbsDate.{AbsDate}
use Rattle.interim.specs.declared.types.Dialect.{Dialect}
use Rattle.interim.specs.declared.types.TimeSpec.{TimeSpec}
use Rattle.interim.specs.TokenKinds.{Kind, Word}
use Rattle.interim.specs.Tokens.{phrase_tokens}
use Rattle.interim.specs.PlainDates.{kinds, PlainDate, spelled_date, date_named}
use Rattle.interim.specs.PlainTimes.{PlainTime, spelled_time, spelled_half, time_named}

-- a date, perhaps a T, a clock time, and perhaps am or pm
pub record PlainPhrase : Type 0 where
  pub date : PlainDate
  pub has_t : Bool
  pub time : PlainTime
  pub half : Option (List ℕ)

-- the token of a T, if there is one
abbrev pub spelled_t : Bool → List Kind
spelled_t has_t = if has_t then Word (codes "T") ∷ [] else []

-- the tokens of a phrase of the plain form
abbrev pub spelled : PlainPhrase → List Kind
spelled p = spelled_date p.date ++ (spelled_t p.has_t ++ (spelled_time p.time ++ spelled_half p.half))

-- a phrase is spelled in the plain form, and names this date and this clock time
pub record Names (dialect : Dialect) (phrase : List ℕ) (date : AbsDate) (time : TimeSpec) : Type 0 where
  pub form : PlainPhrase
  pub spelling : kinds (phrase_tokens phrase) ≡ spelled form
  pub date_is : date_named dialect form.date ≡ Some date
  pub time_is : time_named form.time form.half ≡ Some time

-- the date is one of the calendar, minute and second are below 60, and w is the wall second;
-- an hour past 23 moves the date on
pub record IsWall (date : AbsDate) (time : TimeSpec) (w : ℤ) : Type 0 where
  pub date_exists : IsDate date.year date.month date.day
  pub minute_exists : time.min < 60
  pub second_exists : time.sec < 60
  pub wall_is : w ≡ wall_second (day_of date.year date.month date.day) time.hour time.min time.sec

-- a phrase has the plain form, and w is the wall second that it names
abbrev pub IsPlainForm : Dialect → List ℕ → ℤ → Type 0
IsPlainForm dialect phrase w = (date : AbsDate) × (time : TimeSpec) × Names dialect phrase date time × IsWall date time w
