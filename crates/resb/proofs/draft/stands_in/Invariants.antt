use Rattle.std.proofs.Common.{◌≡◌, drop}
use Rattle.resb_tree.specs.Keys.{stands_in}
use Rattle.resb.specs.Pool.{bare}
use Rattle.resb.proofs.draft.stands_in.Given as goal

abbrev pub invariant-loop-other : goal.invariant-loop-other
invariant-loop-other l = stands_in l.key (bare (drop l.other-index l.keys)) ≡ stands_in l.key (bare l.keys)
