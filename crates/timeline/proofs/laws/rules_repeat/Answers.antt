use Rattle.timeline.proofs.RuleKinds.{first_entry-400, second_entry-400}
use Rattle.timeline.proofs.laws.rules_repeat.Goals as goal

pub returns : goal.returns
returns c = record {
  first = first_entry-400 c.years_repeat.ensures;
  second = second_entry-400 c.years_repeat.ensures;
}
