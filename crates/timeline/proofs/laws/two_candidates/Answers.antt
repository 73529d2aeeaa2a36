use Rattle.timeline.proofs.Candidates.{two-candidates}
use Rattle.timeline.proofs.laws.two_candidates.Goals as goal

pub returns : goal.returns
returns c = two-candidates
