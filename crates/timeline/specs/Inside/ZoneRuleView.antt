-- The plain rule of a `ZoneRule`, and what is true of it.
use Rattle.std.specs.Prelude.{◌≡◌}
use Rattle.timeline.specs.Zone.{PlainRule, plain_rule}
use Rattle.timeline.specs.Inside.KeptRules.{kept_rule}
use Rattle.timeline.specs.DateView.{raw_of}
use Rattle.timeline.specs.declared.dates.ZoneRule.TheInside.{Inside}

-- the rule that the fields keep
abbrev pub rule_view : Inside → PlainRule
rule_view a = plain_rule (raw_of a.dates) a.years.raw a.years.first_year

-- what is kept of its years is that of the rule; its dates carry their ranges, and `IsKept` says those of the rest
pub record HasYears (a : Inside) : Type 0 where
  pub years : a.years ≡ kept_rule (rule_view a)
