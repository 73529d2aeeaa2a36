-- A rule by its two dates.
use Rattle.std.specs.Prelude.{Option, Some, None, ℤ}
use Rattle.timeline.specs.Zone.{DateRule, RawRule}

-- a rule of two dates and the extra offset, where both are dates
abbrev pub by_dates : Option DateRule → Option DateRule → ℤ → Option RawRule
by_dates None end extra = None
by_dates (Some start) None extra = None
by_dates (Some start) (Some end) extra = Some (record { start = start; end = end; extra = extra })
