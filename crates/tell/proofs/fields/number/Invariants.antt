use Rattle.std.proofs.Common.{◌^◌, ◌<◌, ◌≤◌, ◌-◌}
use Rattle.tell.proofs.FieldCuts.{IsReadTo}
use Rattle.tell.proofs.fields.number.Given as goal

abbrev pub invariant-loop-count : goal.invariant-loop-count
invariant-loop-count l = record {
  read : IsReadTo l.bytes l.value l.count;
  few : l.count ≤ l.most;
  small : l.value < 10 ^ l.count;
}

abbrev pub decreases-loop-count : goal.decreases-loop-count
decreases-loop-count l = l.most - l.count
