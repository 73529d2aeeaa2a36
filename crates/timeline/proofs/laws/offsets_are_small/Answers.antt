use Rattle.timeline.proofs.SmallOffsets.{offsets-are-small}
use Rattle.timeline.proofs.laws.offsets_are_small.Goals as goal

pub returns : goal.returns
returns c = offsets-are-small
