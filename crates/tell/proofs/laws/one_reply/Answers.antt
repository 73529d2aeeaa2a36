use Rattle.tell.proofs.OneAnswer.{one_reply}
use Rattle.tell.proofs.laws.one_reply.Goals as goal

pub returns : goal.returns
returns c = one_reply c.one_text.ensures c.parts_mean_one_thing.ensures c.one_verdict.ensures
