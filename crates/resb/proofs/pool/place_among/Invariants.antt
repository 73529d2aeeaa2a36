use Rattle.std.proofs.Common.{◌≡◌, ◌+◌, ◌<◌, ◌^◌, drop, length}
use Rattle.resb.specs.Pool.{bare}
use Rattle.resb.specs.Inside.Pooling.{place_told}
use Rattle.resb.specs.TreeKeys.{pool_bytes}
use Rattle.resb.proofs.Pools.{told_at}
use Rattle.resb.proofs.pool.place_among.Given as goal

-- where the key is told among the keys that are left, it is told so among all
abbrev pub invariant-loop-other : goal.invariant-loop-other
invariant-loop-other l =
    let rest = bare (drop l.other-index l.keys) in
    (told_at rest l.place l.key ≡ place_told (bare l.keys) l.key) × (l.place + length (pool_bytes rest) < 2 ^ 64)
