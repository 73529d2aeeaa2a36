use Rattle.streams.proofs.LineCuts.{lines_end_at_lfs}
use Rattle.streams.proofs.laws.lines_end_at_lfs.Goals as goal

pub returns : goal.returns
returns c = lines_end_at_lfs
