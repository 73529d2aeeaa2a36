use Rattle.timeline.proofs.OneHolds.{holds-once}
use Rattle.timeline.proofs.laws.one_offset_holds.Goals as goal

pub returns : goal.returns
returns c = holds-once
