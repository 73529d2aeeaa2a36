use Rattle.std.proofs.Common.{◌≡◌, drop}
use Rattle.resb_tree.specs.Keys.{keys_in}
use Rattle.resb.specs.BadKeys.{all_keys}
use Rattle.resb.proofs.measures.all_keys.Given as goal

abbrev pub invariant-loop-key : goal.invariant-loop-key
invariant-loop-key l = all_keys (keys_in (drop l.key-index l.entries)) ≡ all_keys (keys_in l.entries)
