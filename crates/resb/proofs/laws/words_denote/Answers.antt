use Rattle.resb.proofs.Denotes.{denotes}
use Rattle.resb.proofs.laws.words_denote.Goals as goal

pub returns : goal.returns
returns c = denotes
