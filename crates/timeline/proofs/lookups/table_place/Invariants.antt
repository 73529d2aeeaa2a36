use Rattle.std.proofs.Common.{◌≡◌, ℕ, ◌-◌, ◌<◌, ◌≤◌, length, Some, ◌<ℤ◌, ◌≤ℤ◌}
use Rattle.std.specs.List.{slice_get}
use Rattle.timeline.specs.declared.offset.Transition.{Transition}
use Rattle.timeline.specs.TableLaws.{KeepsOrder}
use Rattle.timeline.proofs.Probes.{AreLeft}
use Rattle.timeline.proofs.lookups.table_place.Given as goal

abbrev pub invariant-loop-low : goal.invariant-loop-low
invariant-loop-low g l = record {
  order : l.low ≤ l.high;
  within : l.high ≤ length l.zone.table;
  ticks : AreLeft l.initial.steps l.steps (l.high - l.low) (length l.zone.table);
  passed : KeepsOrder l.zone → (k : ℕ) (e : Transition) → slice_get l.zone.table k ≡ Some e → k < l.low → e.since ≤ℤ l.second;
  ahead : KeepsOrder l.zone → (k : ℕ) (e : Transition) → slice_get l.zone.table k ≡ Some e → l.high ≤ k → l.second <ℤ e.since;
}

abbrev pub decreases-loop-low : goal.decreases-loop-low
decreases-loop-low g l = l.high - l.low
