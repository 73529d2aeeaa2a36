use Rattle.std.proofs.Common.{◌+◌, length, arith}
use Rattle.std.proofs.lemmas.Grind.{common_steps}
use Rattle.resb.specs.Inside.Laying.{no_places, leaf_words}
use Rattle.resb.proofs.LaidWords.{text_some}
use Rattle.resb.proofs.laying.lay_text.Goals as goal

pub returns-clause-words : goal.returns-clause-words
returns-clause-words c = rw (text_some c.args.units.now no_places (c.args.base + length c.args.out.now.items) (omega arith), leaf_words) (grind (arith, common_steps))
