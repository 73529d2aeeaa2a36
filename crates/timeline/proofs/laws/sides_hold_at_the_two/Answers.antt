use Rattle.timeline.proofs.OffsetChanges.{two_sides}
use Rattle.timeline.proofs.laws.sides_hold_at_the_two.Goals as goal

pub returns : goal.returns
returns c = two_sides
