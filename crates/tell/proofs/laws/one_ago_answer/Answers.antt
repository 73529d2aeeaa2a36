use Rattle.tell.proofs.OneAnswer.{one_ago_answer}
use Rattle.tell.proofs.laws.one_ago_answer.Goals as goal

pub returns : goal.returns
returns c = one_ago_answer c.one_text.ensures
