use Rattle.std.proofs.Common.{◌≡◌, ◌++◌, drop}
use Rattle.resb.specs.Pool.{bare}
use Rattle.resb.specs.TreeKeys.{pool_bytes}
use Rattle.resb.proofs.bundle.pool_bytes.Given as goal

abbrev pub invariant-loop-key : goal.invariant-loop-key
invariant-loop-key l = l.bytes.items ++ pool_bytes (bare (drop l.key-index l.keys)) ≡ pool_bytes (bare l.keys)
