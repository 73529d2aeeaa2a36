use Rattle.timeline.proofs.Places.{placed-once}
use Rattle.timeline.proofs.laws.placed_once.Goals as goal

pub returns : goal.returns
returns c = placed-once
