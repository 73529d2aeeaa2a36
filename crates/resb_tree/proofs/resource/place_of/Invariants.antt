use Rattle.resb_tree.proofs.FirstEntries.{PassedOver}
use Rattle.resb_tree.proofs.resource.place_of.Given as goal

abbrev pub invariant-loop-at : goal.invariant-loop-at
invariant-loop-at l = PassedOver l.key l.entries l.at
