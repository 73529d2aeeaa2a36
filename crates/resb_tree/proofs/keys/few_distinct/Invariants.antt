use Rattle.std.proofs.Common.{◌≡◌, drop}
use Rattle.resb_tree.specs.Keys.{distinct, keys_in}
use Rattle.resb_tree.proofs.keys.few_distinct.Given as goal

abbrev pub invariant-loop-at : goal.invariant-loop-at
invariant-loop-at l = distinct (keys_in (drop l.at l.entries)) ≡ distinct (keys_in l.entries)
