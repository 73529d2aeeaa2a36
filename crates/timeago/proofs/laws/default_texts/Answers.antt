use Rattle.timeago.proofs.DefaultTexts.{default_texts}
use Rattle.timeago.proofs.laws.default_texts.Goals as goal

pub returns : goal.returns
returns c = default_texts
