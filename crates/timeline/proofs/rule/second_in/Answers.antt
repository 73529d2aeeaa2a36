use Rattle.std.proofs.Common.{arith}
use Rattle.std.proofs.lemmas.Int.{ints}
use Rattle.timeline.proofs.rule.second_in.Goals as goal

pub returns : goal.returns
returns c = omega (arith, ints)
