use Rattle.std.proofs.Common.{arith}
use Rattle.resb.proofs.PoolSearch.{told_take, end_take}
use Rattle.resb.proofs.pool.KeyPool.find.Goals as goal

pub place_among-requires : goal.place_among-requires
place_among-requires c =
    rw c.as_slice-keys.ensures.value (omega (arith, end_take c.min.result c.args.self.now.keys.items, c.args.self.now.ends))

pub returns-in-Some : goal.returns-in-Some
returns-in-Some c =
    told_take c.min.result c.args.self.now.keys.items 32 c.args.key.now c.in-Some.place (rw c.as_slice-keys.ensures.value at c.in-Some.ensures)
