use Rattle.tongues.proofs.TextLemmas.{text_is}
use Rattle.tongues.proofs.laws.texts_are_utf8.Goals as goal

pub returns : goal.returns
returns c = text_is
