use Rattle.std.proofs.Common.{◌≡◌, ◌≤◌, ◌+◌, ◌-◌, vec_len}
use Rattle.std.specs.Prelude.{vec_capacity}
use Rattle.resb_tree.specs.Words.{run, byte_in}
use Rattle.resb_tree.proofs.words.bytes_from.Given as goal

abbrev pub invariant-loop-at : goal.invariant-loop-at
invariant-loop-at l = record {
  read : l.found.items ≡ run (byte_in l.words) l.from (l.at - l.from);
  from : l.from ≤ l.at;
  end : l.at ≤ l.end;
  room : vec_len l.found + (l.end - l.at) ≤ vec_capacity l.found;
}

abbrev pub decreases-loop-at : goal.decreases-loop-at
decreases-loop-at l = l.end - l.at
