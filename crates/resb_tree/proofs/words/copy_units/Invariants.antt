use Rattle.std.proofs.Common.{◌≡◌, ◌<◌, ◌≤◌, ◌+◌, ◌-◌, ◌%◌, take}
use Rattle.resb_tree.specs.Words.{run, unit_in}
use Rattle.resb_tree.proofs.words.copy_units.Given as goal

-- the units so far were copied, and the next one begins a word
abbrev pub invariant-loop-at : goal.invariant-loop-at
invariant-loop-at l = record {
  read : take l.at l.units ≡ run (unit_in l.words) l.from l.at;
  within : l.at ≤ l.count;
  even : l.at < l.count → (l.from + l.at) % 2 ≡ 0;
}

abbrev pub decreases-loop-at : goal.decreases-loop-at
decreases-loop-at l = l.count - l.at
