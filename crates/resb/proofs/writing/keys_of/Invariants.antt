use Rattle.std.proofs.Common.{◌≡◌, ◌++◌, drop}
use Rattle.resb_tree.specs.Keys.{keys_in}
use Rattle.resb.specs.Pool.{bare}
use Rattle.resb.proofs.writing.keys_of.Given as goal

abbrev pub invariant-loop-key : goal.invariant-loop-key
invariant-loop-key l = bare l.keys.items ++ keys_in (drop l.key-index l.entries) ≡ keys_in l.entries
