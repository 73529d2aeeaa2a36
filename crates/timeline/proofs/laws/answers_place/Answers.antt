use Rattle.timeline.proofs.Placing.{answers-place}
use Rattle.timeline.proofs.laws.answers_place.Goals as goal

pub returns : goal.returns
returns c = answers-place
