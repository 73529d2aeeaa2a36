use Rattle.std.proofs.Common.{◌≡◌, drop}
use Rattle.resb.specs.Pool.{bare}
use Rattle.resb.specs.BadKeys.{all_keys}
use Rattle.resb.proofs.draft.are_keys.Given as goal

abbrev pub invariant-loop-key : goal.invariant-loop-key
invariant-loop-key l = all_keys (bare (drop l.key-index l.keys)) ≡ all_keys (bare l.keys)
