-- The days of the week (docs/CALENDAR.md, "Days of the week, and weeks").
use Rattle.std.specs.Prelude.{ℕ}
use Rattle.civil.specs.declared.weekday.Weekday.{Weekday}
use Rattle.civil.specs.declared.weekday.Weekday.TheVariants.{Mon, Tue, Wed, Thu, Fri, Sat, Sun}

-- how many days a weekday is after Monday
abbrev pub days_from_monday : Weekday → ℕ
days_from_monday Mon = 0
days_from_monday Tue = 1
days_from_monday Wed = 2
days_from_monday Thu = 3
days_from_monday Fri = 4
days_from_monday Sat = 5
days_from_monday Sun = 6
