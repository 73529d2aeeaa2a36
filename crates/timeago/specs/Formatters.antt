-- What a formatter shows: its settings and its language (docs/WORDS.md, "What a formatter sets").
use Rattle.std.specs.Prelude.{option_copied}
use Rattle.std.specs.Duration.{as_nanos}
use Rattle.timeago.specs.Settings.{Settings}
use Rattle.timeago.specs.declared.formatter.Formatter.{Formatter}

-- what a formatter is set to, with None for each word that is the language's
abbrev pub settings_of : {L : Type 0} → Formatter L → Settings
settings_of f = record {
  items = f.num_items;
  min_unit = f.min_unit;
  max_unit = f.max_unit;
  max_duration = as_nanos f.max_duration;
  low = option_copied f.too_low;
  high = option_copied f.too_high;
  past = option_copied f.ago;
}

-- the language that a formatter tells
abbrev pub language_of : {L : Type 0} → Formatter L → L
language_of f = f.language
