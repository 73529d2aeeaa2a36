use Rattle.tell.proofs.OneAnswer.{meaning_told}
use Rattle.tell.proofs.laws.every_meaning_is_told.Goals as goal

pub returns : goal.returns
returns c = meaning_told c.parts_mean_one_thing.ensures c.one_verdict.ensures
