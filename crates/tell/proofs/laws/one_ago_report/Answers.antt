use Rattle.tell.proofs.OneAnswer.{one_ago_reply, one_report}
use Rattle.tell.proofs.laws.one_ago_report.Goals as goal

pub returns : goal.returns
returns c = λ speech. one_report _ (one_ago_reply c.one_ago_answer.ensures speech)
