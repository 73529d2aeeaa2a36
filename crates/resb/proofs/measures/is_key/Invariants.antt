use Rattle.std.proofs.Common.{◌≡◌, drop}
use Rattle.resb.specs.BadKeys.{is_key}
use Rattle.resb.proofs.measures.is_key.Given as goal

abbrev pub invariant-loop-byte : goal.invariant-loop-byte
invariant-loop-byte l = is_key (drop l.byte-index l.bytes) ≡ is_key l.bytes
