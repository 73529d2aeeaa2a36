use Rattle.std.proofs.Common.{◌≡◌, drop}
use Rattle.resb_tree.specs.Fields.{first_with}
use Rattle.resb_tree.proofs.resource.first_with.Given as goal

abbrev pub invariant-loop-name : goal.invariant-loop-name
invariant-loop-name l = first_with l.key (drop l.name-index l.entries) ≡ first_with l.key l.entries
