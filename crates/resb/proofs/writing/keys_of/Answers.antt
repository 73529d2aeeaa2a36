use Rattle.resb.proofs.Told.{keys_more}
use Rattle.resb.proofs.writing.keys_of.Goals as goal

pub loop-key-preserved : goal.loop-key-preserved
loop-key-preserved c =
    keys_more c.args.entries.now c.loop-key.key-index c.loop-key-item.result c.loop-key.keys.items c.push.new.self.items c.as_slice.result _ c.loop-key-test.true c.loop-key-item.is c.as_slice.ensures c.in_ok-push.ensures.items c.loop-key.invariant
