use Rattle.timeline.proofs.EqualTables.{SameBelow}
use Rattle.timeline.proofs.equal.same_seconds_by.Given as goal

abbrev pub invariant-loop-n : goal.invariant-loop-n
invariant-loop-n g l = SameBelow l.a.table l.b.table l.n
