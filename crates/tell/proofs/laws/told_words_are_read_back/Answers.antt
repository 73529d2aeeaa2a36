use Rattle.tell.proofs.ReadBack.{told_words_are_read_back}
use Rattle.tell.proofs.laws.told_words_are_read_back.Goals as goal

pub returns : goal.returns
returns c = told_words_are_read_back c.default_texts.ensures
