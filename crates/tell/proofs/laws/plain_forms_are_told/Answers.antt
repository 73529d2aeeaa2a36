use Rattle.tell.proofs.OneAnswer.{plain_told}
use Rattle.tell.proofs.laws.plain_forms_are_told.Goals as goal

pub returns : goal.returns
returns c = plain_told c.one_verdict.ensures
