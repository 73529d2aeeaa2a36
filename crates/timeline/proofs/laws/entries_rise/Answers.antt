use Rattle.timeline.proofs.TimelineRises.{entries-rise}
use Rattle.timeline.proofs.laws.entries_rise.Goals as goal

pub returns : goal.returns
returns c = entries-rise
