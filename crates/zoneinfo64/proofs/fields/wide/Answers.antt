use Rattle.std.proofs.Common.{arith}
use Rattle.zoneinfo64.specs.Inside.FromParts.{wide_in}
use Rattle.zoneinfo64.proofs.Wides.{wide_even, wide_odd}
use Rattle.zoneinfo64.proofs.fields.wide.Goals as goal

pub returns-then-words-eq0 : goal.returns-then-words-eq0
unfolding wide_in
returns-then-words-eq0 c = rw c.in_ok-words.ensures (wide_even c.in_ok-words.words.now (omega arith))

pub returns-else-words-eq0 : goal.returns-else-words-eq0
unfolding wide_in
returns-else-words-eq0 c = rw c.in_ok-words.ensures (wide_odd c.in_ok-words.words.now (omega arith))
