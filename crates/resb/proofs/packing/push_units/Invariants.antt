use Rattle.std.proofs.Common.{◌≡◌, ◌++◌, length}
use Rattle.resb.specs.Packing.{pack_units}
use Rattle.resb.proofs.packing.push_units.Given as goal

abbrev pub invariant-loop-rest : goal.invariant-loop-rest
invariant-loop-rest l = l.out.items ++ pack_units l.rest ≡ l.fn.out.items ++ pack_units l.fn.units

abbrev pub decreases-loop-rest : goal.decreases-loop-rest
decreases-loop-rest l = length l.rest
