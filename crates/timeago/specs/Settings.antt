-- What a formatter is set to (docs/WORDS.md, "What a formatter sets").
use Rattle.std.specs.Prelude.{ℕ, Option, Some, None, List, []}
use Rattle.tongues.specs.declared.unit.TimeUnit.{TimeUnit}
use Rattle.tongues.specs.declared.unit.TimeUnit.TheVariants as u

-- how many counts are told at most, the least and the greatest unit, the greatest distance that is told, in nanoseconds,
-- and words that are set in place of the language's
pub record Settings : Type 0 where
  pub items : ℕ
  pub min_unit : TimeUnit
  pub max_unit : TimeUnit
  pub max_duration : ℕ
  pub low : Option (List ℕ)
  pub high : Option (List ℕ)
  pub past : Option (List ℕ)

-- one count from seconds to years of any distance, with the language's words
abbrev pub default_settings : Settings
default_settings = record {
  items = 1;
  min_unit = u.Seconds;
  max_unit = u.Years;
  max_duration = 18446744073709551615999999999;
  low = None;
  high = None;
  past = None;
}

-- the default settings with no word for the past
abbrev pub ahead_settings : Settings
ahead_settings = record default_settings { past = Some [] }

-- the default settings with three counts
abbrev pub three_count_settings : Settings
three_count_settings = record default_settings { items = 3 }
