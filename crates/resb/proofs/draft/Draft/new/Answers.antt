use Rattle.std.proofs.Common.{◌∙◌, sym}
use Rattle.resb.specs.Pool.{bare}
use Rattle.resb.proofs.Pools.{pool_first}
use Rattle.resb.proofs.draft.Draft.new.Goals as goal

pub over-requires-clause-near : goal.over-requires-clause-near
over-requires-clause-near c = (pool_first (bare c.args.keys.now) _ c.in_ok-pool.ensures).1

pub over-requires-clause-good : goal.over-requires-clause-good
over-requires-clause-good c = rw c.as_slice.ensures.value at (sym c.are_keys.ensures ∙ c.if-not-are_keys.false)

pub returns : goal.returns
returns c = rw (← (pool_first (bare c.args.keys.now) _ c.in_ok-pool.ensures).0) c.over.ensures.holds
