use Rattle.timeline.proofs.NearestDays.{first-is, last-is}
use Rattle.timeline.proofs.laws.rule_days_are_nearest.Goals as goal

pub returns : goal.returns
returns c = record { first = first-is; last = last-is }
