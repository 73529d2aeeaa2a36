use Rattle.std.proofs.Common.{arith}
use Rattle.streams.proofs.BytesLemmas.{wrote_more, wrote_front}
use Rattle.std.proofs.lemmas.Grind.{common_steps}
use Rattle.streams.proofs.whole.write_all.Goals as goal

pub writing-preserved : goal.writing-preserved
writing-preserved g c = record {
  in_range = grind (arith, common_steps);
  gained = wrote_more _ _ _ _ _ _ c.writing.invariant.gained c.in_ok-place.ensures.bytes;
  later = omega arith;
}

pub returns-in_err-place-clause-written : goal.returns-in_err-place-clause-written
returns-in_err-place-clause-written g c = wrote_front _ _ _ _ _ c.writing.invariant.gained c.in_err-place.ensures.bytes
