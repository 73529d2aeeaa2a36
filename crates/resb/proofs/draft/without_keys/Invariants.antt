use Rattle.std.proofs.Common.{◌≡◌, ◌+◌, drop, length}
use Rattle.std.specs.Prelude.{sum_by}
use Rattle.resb.specs.Pool.{bare}
use Rattle.resb.proofs.draft.without_keys.Given as goal

abbrev pub invariant-loop-key : goal.invariant-loop-key
invariant-loop-key l = l.rest + sum_by length (bare l.keys) ≡ l.left + sum_by length (bare (drop l.key-index l.keys))
