use Rattle.std.proofs.Common.{◌≡◌, ◌≤◌, ◌+◌, ◌++◌, length, vec_len, map}
use Rattle.std.specs.Prelude.{vec_capacity}
use Rattle.zoneinfo64.specs.RuleDates.{as_i32}
use Rattle.zoneinfo64.proofs.fields.push_narrow.Given as goal

abbrev pub invariant-loop-rest : goal.invariant-loop-rest
invariant-loop-rest l = record {
  items : l.list.items ++ map as_i32 l.rest ≡ l.fn.list.items ++ map as_i32 l.words;
  room : vec_len l.list + length (map as_i32 l.rest) ≤ vec_capacity l.list;
  same : vec_capacity l.list ≡ vec_capacity l.fn.list;
}

abbrev pub decreases-loop-rest : goal.decreases-loop-rest
decreases-loop-rest l = length l.rest
