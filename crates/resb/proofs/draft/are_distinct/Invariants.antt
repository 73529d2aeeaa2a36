use Rattle.std.proofs.Common.{◌≡◌, drop}
use Rattle.resb_tree.specs.Keys.{distinct}
use Rattle.resb.specs.Pool.{bare}
use Rattle.resb.proofs.draft.are_distinct.Given as goal

abbrev pub invariant-loop-at : goal.invariant-loop-at
invariant-loop-at l = distinct (bare (drop l.at l.keys)) ≡ distinct (bare l.keys)
