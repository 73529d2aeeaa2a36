use Rattle.std.proofs.Common.{ℕ, ◌<◌, ◌≤◌}
use Rattle.timeline.specs.declared.offset.Transition.{Transition}
use Rattle.timeline.specs.Transitions.{Counts}
use Rattle.timeline.proofs.transitions.last_in_table.Given as goal

abbrev pub invariant-loop-n : goal.invariant-loop-n
invariant-loop-n g l = record {
  within : l.n ≤ l.to;
  none : (m : ℕ) (f : Transition) → l.n ≤ m → m < l.to → Counts l.zone l.change m f → ⊥;
}

abbrev pub decreases-loop-n : goal.decreases-loop-n
decreases-loop-n g l = l.n
