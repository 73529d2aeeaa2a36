use Rattle.timeline.proofs.WallSeconds.{showing}
use Rattle.timeline.proofs.laws.wall_seconds_show.Goals as goal

pub returns : goal.returns
returns c = showing
