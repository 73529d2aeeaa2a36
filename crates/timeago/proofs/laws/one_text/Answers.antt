use Rattle.timeago.proofs.DefaultTexts.{one_text}
use Rattle.timeago.proofs.laws.one_text.Goals as goal

pub returns : goal.returns
returns c = one_text
