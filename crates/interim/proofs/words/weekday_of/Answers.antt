use Rattle.interim.proofs.WordLemmas.{weekday_of_short}
use Rattle.interim.proofs.words.weekday_of.Goals as goal

pub returns-in_default : goal.returns-in_default
returns-in_default c = weekday_of_short c.args.word.now c.in_default.len_below
