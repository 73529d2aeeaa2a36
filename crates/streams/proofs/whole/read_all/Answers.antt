use Rattle.std.proofs.Common.{arith}
use Rattle.streams.proofs.BytesLemmas.{took_more}
use Rattle.std.proofs.lemmas.Grind.{common_steps}
use Rattle.streams.proofs.whole.read_all.Goals as goal

pub returns-then-is_err-clause-taken : goal.returns-then-is_err-clause-taken
returns-then-is_err-clause-taken g c = took_more _ _ _ _ _ _ c.reading.invariant.taken c.in-Ok-read.ensures.bytes.0 (grind (arith, common_steps))
