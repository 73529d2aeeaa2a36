use Rattle.timeline.proofs.WallSeconds.{each-placed}
use Rattle.timeline.proofs.laws.wall_seconds_are_placed.Goals as goal

pub returns : goal.returns
returns c = each-placed
