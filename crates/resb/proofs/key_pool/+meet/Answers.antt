use Rattle.std.proofs.Common.{[], ◌∷◌, ◌++◌, ◌+◌, drop, map}
use Rattle.resb.specs.Pool.{bare}
use Rattle.resb.specs.Entries.{told_values}
use Rattle.resb.specs.TreeKeys.{keys_met, item_keys, entry_keys}
use Rattle.resb.proofs.Pools.{pooled_on}
use Rattle.resb.proofs.LaidSteps.{item_cons}
use Rattle.resb.proofs.key_pool.+meet.Goals as goal

pub meet_items-loop-item-preserved : goal.meet_items-loop-item-preserved
meet_items-loop-item-preserved t c =
    let rest = drop (c.loop-item.item-index + 1) c.args.items.now in
    let cons = item_cons c.args.items.now c.loop-item.item-index c.item-item.result c.loop-item-test.true c.item-item.is in
    pooled_on (bare c.loop-item.met.items) (bare c.meet_keys.new.met.items) (keys_met c.item-item.result) (item_keys (map keys_met rest)) _ c.in_ok-meet_keys.ensures (rw cons at c.loop-item.invariant)

pub meet_entries-loop-key-preserved : goal.meet_entries-loop-key-preserved
meet_entries-loop-key-preserved t c =
    let entry = c.loop-key-item.result in
    let rest = entry_keys (told_values keys_met (drop (c.loop-key.key-index + 1) c.args.entries.now)) in
    let cons = item_cons c.args.entries.now c.loop-key.key-index entry c.loop-key-test.true c.loop-key-item.is in
    let own = pooled_on (bare c.loop-key.met.items) (bare c.meet.new.met.items) (entry.0 ∷ []) (keys_met entry.1 ++ rest) _ (rw c.as_slice.ensures at c.in_ok-meet.ensures) (rw cons at c.loop-key.invariant) in
    pooled_on (bare c.meet.new.met.items) (bare c.meet_keys.new.met.items) (keys_met entry.1) rest _ c.in_ok-meet_keys.ensures own
