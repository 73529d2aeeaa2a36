use Rattle.std.proofs.Common.{◌≡◌, ◌++◌, [], drop}
use Rattle.std.specs.Prelude.{map}
use Rattle.resb.specs.Pool.{bare}
use Rattle.resb.specs.Entries.{told_values}
use Rattle.resb.specs.Inside.Pooling.{pooled}
use Rattle.resb.specs.TreeKeys.{keys_met, item_keys, entry_keys}
use Rattle.resb.proofs.key_pool.+meet.Given as goal

abbrev pub invariant-meet_items-loop-item : goal.invariant-meet_items-loop-item
invariant-meet_items-loop-item l = pooled [] (bare l.met.items ++ item_keys (map keys_met (drop l.item-index l.items))) ≡ pooled [] (bare l.fn.met.items ++ item_keys (map keys_met l.items))

abbrev pub invariant-meet_entries-loop-key : goal.invariant-meet_entries-loop-key
invariant-meet_entries-loop-key l = pooled [] (bare l.met.items ++ entry_keys (told_values keys_met (drop l.key-index l.entries))) ≡ pooled [] (bare l.fn.met.items ++ entry_keys (told_values keys_met l.entries))
