use Rattle.timeline.proofs.RuleKinds.{rule_date-place}
use Rattle.timeline.proofs.laws.rules_go_by_kind.Goals as goal

pub returns : goal.returns
returns c = rule_date-place c.kinds_of_year.ensures c.example_years.ensures
