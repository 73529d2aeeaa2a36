-- What is told of a distance can be read back (docs/WORDS.md, "What a formatter sets").
use Rattle.std.specs.Prelude.{◌≡◌, ℕ, ◌*◌, ◌<◌, ◌≤◌, pos, neg_ℤ, List, Option, Some, None, Ok}
use Rattle.tongues.specs.Units.{unit_size}
use Rattle.tongues.specs.GermanicLanguages.{english}
use Rattle.tongues.specs.declared.unit.TimeUnit.{TimeUnit}
use Rattle.tongues.specs.declared.unit.TimeUnit.TheVariants as u
use Rattle.timeago.specs.Settings.{default_settings}
use Rattle.timeago.specs.Words.{IsWords}
use Rattle.timeago.specs.Laws.{IsOneCount}
use Rattle.interim.specs.declared.types.Dialect.{Dialect}
use Rattle.interim.specs.declared.types.Interval.{Interval}
use Rattle.interim.specs.declared.types.Interval.TheVariants.{Seconds, Days, Months}
use Rattle.interim.specs.declared.types.DateSpec.TheVariants.{Relative}
use Rattle.interim.specs.Intervals.{scaled}
use Rattle.interim.specs.Grammar.{parts_of, duration_of}
use Rattle.interim.specs.Tokens.{phrase_tokens}

-- the interval that a phrase counts a unit by, from seconds on: a week has 7 days, and a year 12 months
abbrev pub interval_of_unit : TimeUnit → Option Interval
interval_of_unit u.Nanoseconds = None
interval_of_unit u.Microseconds = None
interval_of_unit u.Milliseconds = None
interval_of_unit u.Seconds = Some (Seconds (pos 1))
interval_of_unit u.Minutes = Some (Seconds (pos 60))
interval_of_unit u.Hours = Some (Seconds (pos 3600))
interval_of_unit u.Days = Some (Days (pos 1))
interval_of_unit u.Weeks = Some (Days (pos 7))
interval_of_unit u.Months = Some (Months (pos 1))
interval_of_unit u.Years = Some (Months (pos 12))

-- a phrase says so many of a unit back, and no time of a day: in each dialect as the parts of a phrase, and as a duration
pub record SaysBack (phrase : List ℕ) (unit : TimeUnit) (count : ℕ) : Type 0 where
  pub interval : Interval
  pub of_unit : interval_of_unit unit ≡ Some interval
  pub parts : (dialect : Dialect) → parts_of dialect (phrase_tokens phrase)
      ≡ Ok (record { date = Some (Relative (scaled interval (neg_ℤ (pos count)))); time = None })
  pub duration : duration_of (phrase_tokens phrase) ≡ Ok (scaled interval (neg_ℤ (pos count)))

-- from one second to less than 10,000 years, the words of a new formatter say the one count that it tells
abbrev pub ToldWordsAreReadBack : Type 0
ToldWordsAreReadBack = (distance : ℕ) (text : List ℕ) → unit_size u.Seconds ≤ distance → distance < 10000 * unit_size u.Years
    → IsWords english default_settings distance text
    → (unit : TimeUnit) × (count : ℕ) × IsOneCount distance unit count × SaysBack text unit count
