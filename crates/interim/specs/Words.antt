-- What words name, as they are written (docs/GRAMMAR.md, "Words").
pub use Rattle.interim.specs.CalendarNames.{counted, month_from, weekday_from}
pub use Rattle.interim.specs.WordMeanings.{is_short_for, unit_from, day_from, direction_from, half_from}
use Rattle.std.specs.Prelude.{ℕ, ℤ, Bool, List, take, Option, codes}
use Rattle.std.specs.Str.{bytes_eq}
use Rattle.interim.specs.declared.types.Direction.{Direction}
use Rattle.interim.specs.declared.types.Interval.{Interval}
use Rattle.interim.specs.declared.words.Half.{Half}

-- a month by its first three letters, as they count
unfoldable pub month_of : List ℕ → Option ℕ
month_of word = month_from (take 3 (counted word))

-- a weekday by its first three letters, as they count
unfoldable pub weekday_of : List ℕ → Option ℕ
weekday_of word = weekday_from (take 3 (counted word))

-- a unit of time, as the word's letters count
unfoldable pub unit_of : List ℕ → Option Interval
unit_of word = unit_from (counted word)

-- `now`, `today`, `yesterday` and `tomorrow`, as the word's letters count
unfoldable pub day_of_word : List ℕ → Option ℤ
day_of_word word = day_from (counted word)

-- `next`, `last` and `this`, as the word's letters count
unfoldable pub direction_of : List ℕ → Option Direction
direction_of word = direction_from (counted word)

-- am or pm, as the word's letters count
unfoldable pub half_of : List ℕ → Option Half
half_of word = half_from (counted word)

-- `ago`, as the word's letters count
unfoldable pub is_ago : List ℕ → Bool
is_ago word = bytes_eq (counted word) (codes "ago")

-- the time zone of offset 0
unfoldable pub is_z : List ℕ → Bool
is_z word = bytes_eq (counted word) (codes "z")

-- the capital letter that stands between a date and a time
unfoldable pub is_capital_t : List ℕ → Bool
is_capital_t word = bytes_eq word (codes "T")
