use Rattle.std.proofs.Common.{◌≡◌, drop}
use Rattle.resb.specs.Pool.{all_in, bare}
use Rattle.resb.proofs.draft.are_known.Given as goal

abbrev pub invariant-loop-key : goal.invariant-loop-key
invariant-loop-key l = all_in (bare (drop l.key-index l.keys)) (bare l.pool.keys.items) ≡ all_in (bare l.keys) (bare l.pool.keys.items)
