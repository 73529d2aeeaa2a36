use Rattle.std.proofs.Common.{◌∙◌, sym}
use Rattle.resb.specs.Pool.{bare}
use Rattle.resb.proofs.Pools.{not_there, told_more, end_more}
use Rattle.resb.proofs.key_pool.with_key.Goals as goal

pub invariant_of-result : goal.invariant_of-result
invariant_of-result c =
    let absent = not_there c.get.result (bare c.args.pool.keys.items) c.args.key.now (c.get.ensures.value ∙ c.args.pool.told c.args.key.now) (sym c.if-is_some.ensures) in
    rw c.in_ok-push.ensures.items (record {
      told = told_more c.args.pool.keys.items c.args.key c.args.pool.places c.insert.new.self c.args.pool.end c.args.pool.told c.args.pool.ends absent c.in_ok-insert.ensures.updates;
      ends = end_more c.args.pool.keys.items c.args.key c.args.pool.end c.args.pool.ends;
    })
