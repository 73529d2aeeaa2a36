use Rattle.resb.specs.Pool.{bare}
use Rattle.resb.proofs.Pools.{pooled_again}
use Rattle.resb.proofs.key_pool.meet.Goals as goal

pub returns-then-is_last : goal.returns-then-is_last
returns-then-is_last c = pooled_again (bare c.args.met.now.items) c.args.key.now (rw c.as_slice.ensures.value at (c.is_last.ensures c.if-is_last.true))
