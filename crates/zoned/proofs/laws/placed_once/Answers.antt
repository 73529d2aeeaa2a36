use Rattle.zoned.proofs.PlacedSeconds.{placed_once}
use Rattle.zoned.proofs.laws.placed_once.Goals as goal

pub returns : goal.returns
returns c = placed_once
