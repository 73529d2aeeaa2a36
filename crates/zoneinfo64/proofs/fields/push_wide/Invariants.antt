use Rattle.std.proofs.Common.{◌≡◌, ◌≤◌, ◌+◌, ◌++◌, length, vec_len}
use Rattle.std.specs.Prelude.{vec_capacity}
use Rattle.zoneinfo64.specs.Inside.ListSteps.{wide}
use Rattle.zoneinfo64.proofs.fields.push_wide.Given as goal

abbrev pub invariant-loop-rest : goal.invariant-loop-rest
invariant-loop-rest l = record {
  items : l.list.items ++ wide l.rest ≡ l.fn.list.items ++ wide l.words;
  room : vec_len l.list + length (wide l.rest) ≤ vec_capacity l.list;
  same : vec_capacity l.list ≡ vec_capacity l.fn.list;
}

abbrev pub decreases-loop-rest : goal.decreases-loop-rest
decreases-loop-rest l = length l.rest
