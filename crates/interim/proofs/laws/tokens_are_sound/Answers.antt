use Rattle.std.proofs.Common.{length, arith}
use Rattle.interim.specs.Tokens.{tokens_of}
use Rattle.interim.proofs.TokenPlaces.{in_order, few_digits}
use Rattle.interim.proofs.laws.tokens_are_sound.Goals as goal

pub returns : goal.returns
unfolding tokens_of
returns c = record {
  in_order = λ phrase. in_order (length phrase) 0 (length phrase) phrase (omega arith);
  few_digits = λ phrase. few_digits (length phrase) (length phrase) phrase;
}
