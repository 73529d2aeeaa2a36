use Rattle.std.proofs.Common.{◌≡◌, ◌≤◌, ◌+◌, [], length}
use Rattle.streams.specs.Lines.{ended}
use Rattle.tell.specs.Load.{moments_in, refusals_in, last_moment}
use Rattle.tell.proofs.tally.count.Given as goal

abbrev pub invariant-counting : goal.invariant-counting
invariant-counting l = record {
  moments : l.tally.moments + moments_in (ended l.rest) ≡ moments_in (ended l.answers);
  refusals : l.tally.refusals + refusals_in (ended l.rest) ≡ refusals_in (ended l.answers);
  last : last_moment l.tally.last.now (ended l.rest) ≡ last_moment [] (ended l.answers);
  some : l.tally.moments + l.tally.refusals + length l.rest ≤ length l.answers;
}

abbrev pub decreases-counting : goal.decreases-counting
decreases-counting l = length l.rest
