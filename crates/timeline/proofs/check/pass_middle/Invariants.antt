use Rattle.std.proofs.Common.{◌≡◌, ℕ, ◌+◌, ◌-◌, ◌<◌}
use Rattle.timeline.specs.Inside.LeastFaults.{TellsLeast}
use Rattle.timeline.specs.Inside.TableChecks.{KeepsAt, IsSecondBefore}
use Rattle.timeline.proofs.check.pass_middle.Given as goal

abbrev pub invariant-loop-n : goal.invariant-loop-n
invariant-loop-n g l = record {
  told : TellsLeast (λ f. (m : ℕ) → m < l.n → KeepsAt l.zone.initial l.zone.table l.zone.early l.zone.late l.limit f m) l.least;
  previous : IsSecondBefore l.zone.table l.n l.previous;
  ticks : l.steps ≡ l.initial.steps + (l.n - l.from);
}
