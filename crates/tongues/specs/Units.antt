-- The units of a distance: their sizes in nanoseconds, and which one is next (docs/WORDS.md, "Units").
use Rattle.std.specs.Prelude.{ℕ, Option, Some, None}
use Rattle.tongues.specs.declared.unit.TimeUnit.{TimeUnit}
use Rattle.tongues.specs.declared.unit.TimeUnit.TheVariants as u

-- the nanoseconds of a unit; a year is twelve months of 2,628,003 seconds
abbrev pub unit_size : TimeUnit → ℕ
unit_size u.Nanoseconds = 1
unit_size u.Microseconds = 1000
unit_size u.Milliseconds = 1000000
unit_size u.Seconds = 1000000000
unit_size u.Minutes = 60000000000
unit_size u.Hours = 3600000000000
unit_size u.Days = 86400000000000
unit_size u.Weeks = 604800000000000
unit_size u.Months = 2628003000000000
unit_size u.Years = 31536036000000000

-- the next bigger unit; there is none past the year
abbrev pub next_bigger : TimeUnit → Option TimeUnit
next_bigger u.Nanoseconds = Some u.Microseconds
next_bigger u.Microseconds = Some u.Milliseconds
next_bigger u.Milliseconds = Some u.Seconds
next_bigger u.Seconds = Some u.Minutes
next_bigger u.Minutes = Some u.Hours
next_bigger u.Hours = Some u.Days
next_bigger u.Days = Some u.Weeks
next_bigger u.Weeks = Some u.Months
next_bigger u.Months = Some u.Years
next_bigger u.Years = None

-- the next smaller unit; there is none below the nanosecond
abbrev pub next_smaller : TimeUnit → Option TimeUnit
next_smaller u.Nanoseconds = None
next_smaller u.Microseconds = Some u.Nanoseconds
next_smaller u.Milliseconds = Some u.Microseconds
next_smaller u.Seconds = Some u.Milliseconds
next_smaller u.Minutes = Some u.Seconds
next_smaller u.Hours = Some u.Minutes
next_smaller u.Days = Some u.Hours
next_smaller u.Weeks = Some u.Days
next_smaller u.Months = Some u.Weeks
next_smaller u.Years = Some u.Months
