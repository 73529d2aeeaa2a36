use Rattle.std.proofs.Common.{◌≡◌, ◌++◌, length}
use Rattle.resb.specs.Packing.{pack_bytes}
use Rattle.resb.proofs.packing.push_bytes.Given as goal

abbrev pub invariant-loop-rest : goal.invariant-loop-rest
invariant-loop-rest l = l.out.items ++ pack_bytes l.rest ≡ l.fn.out.items ++ pack_bytes l.fn.bytes

abbrev pub decreases-loop-rest : goal.decreases-loop-rest
decreases-loop-rest l = length l.rest
