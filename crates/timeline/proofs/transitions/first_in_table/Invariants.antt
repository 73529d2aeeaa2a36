use Rattle.std.proofs.Common.{ℕ, ◌<◌, ◌≤◌}
use Rattle.timeline.specs.declared.offset.Transition.{Transition}
use Rattle.timeline.specs.Transitions.{Counts}
use Rattle.timeline.proofs.transitions.first_in_table.Given as goal

abbrev pub invariant-loop-n : goal.invariant-loop-n
invariant-loop-n g l = (m : ℕ) (f : Transition) → l.from ≤ m → m < l.n → Counts l.zone l.change m f → ⊥
