use Rattle.std.proofs.Common.{◌<◌, ℕ, IsTrue, slice_index_or, pos, ◌≤ℤ◌}
use Rattle.timeline.proofs.rule.KindDate.lies_within.Given as goal

abbrev pub invariant-loop-kind : goal.invariant-loop-kind
invariant-loop-kind l =
    IsTrue l.within → (k : ℕ) → k < l.kind → (l.from ≤ℤ slice_index_or l.self.places k (pos 0)) × (slice_index_or l.self.places k (pos 0) ≤ℤ l.to)
