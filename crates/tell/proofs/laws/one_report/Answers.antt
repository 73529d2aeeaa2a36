use Rattle.tell.proofs.OneAnswer.{one_report}
use Rattle.tell.proofs.laws.one_report.Goals as goal

pub returns : goal.returns
returns c = λ speech zones. one_report _ (c.one_reply.ensures speech zones)
