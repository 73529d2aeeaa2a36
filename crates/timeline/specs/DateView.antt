-- The plain rule of the dates that the code keeps (docs/ZONES.md, "The date").
use Rattle.timeline.specs.Zone.{DateRule, RawRule}
use Rattle.timeline.specs.DateNumbers.{date_of}
use Rattle.timeline.specs.declared.dates.RuleDate.{RuleDate}
use Rattle.timeline.specs.declared.dates.RuleDates.{RuleDates}

-- a date of a rule in its numbers
abbrev pub plain_date : RuleDate → DateRule
plain_date d = date_of d.month d.day d.rule d.seconds d.mode

-- the dates of a rule, and its extra offset, in their numbers
abbrev pub raw_of : RuleDates → RawRule
raw_of d = record { start = plain_date d.start; end = plain_date d.end; extra = d.extra }
