-- The numbers of a date of a yearly rule (docs/ZONES.md, "The date").
use Rattle.std.specs.Prelude.{ℕ, suc, ℤ, pos, negsuc}
use Rattle.timeline.specs.Zone.{DateRule}
use Rattle.timeline.specs.declared.dates.DayRule.{DayRule}
use Rattle.timeline.specs.declared.dates.DayRule.TheVariants.{InMonth, Nth, Beside}
use Rattle.timeline.specs.declared.rule.TimeMode.{TimeMode}
use Rattle.timeline.specs.declared.rule.TimeMode.TheVariants.{Wall, Standard, Utc}

-- the number of what the seconds of a date are counted by
abbrev pub mode_number : TimeMode → ℕ
mode_number Wall = 0
mode_number Standard = 1
mode_number Utc = 2

-- the weekday code of which day a date names
abbrev pub day_code : DayRule → ℤ
day_code InMonth = pos 0
day_code (Nth weekday) = pos (suc weekday)
day_code (Beside weekday) = negsuc weekday

-- the date of a month, a day, which day that names, its seconds, and what these are counted by
abbrev pub date_of : ℕ → ℤ → DayRule → ℕ → TimeMode → DateRule
date_of month day rule seconds mode = record {
  month = month;
  day = day;
  code = day_code rule;
  seconds = seconds;
  mode = mode_number mode;
}
