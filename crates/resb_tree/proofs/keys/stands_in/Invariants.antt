use Rattle.std.proofs.Common.{◌≡◌, drop}
use Rattle.resb_tree.specs.Keys.{stands_in, keys_in}
use Rattle.resb_tree.proofs.keys.stands_in.Given as goal

abbrev pub invariant-loop-name : goal.invariant-loop-name
invariant-loop-name l = stands_in l.key (keys_in (drop l.name-index l.entries)) ≡ stands_in l.key (keys_in l.entries)
