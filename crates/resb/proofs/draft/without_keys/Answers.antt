use Rattle.std.proofs.Common.{ℕ, List, [], Bor, arith}
use Rattle.resb.proofs.PlacedKeys.{sum_past}
use Rattle.resb.proofs.draft.without_keys.Goals as goal

pub returns-then-key-rest-clause-err : goal.returns-then-key-rest-clause-err
returns-then-key-rest-clause-err c =
    let d : Bor (List ℕ) = record { ref_ptr = (0, 0); now = [] } in
    λ enough. omega (arith, enough, sum_past c.args.keys.now d c.loop-key.key-index c.loop-key-test.true, c.loop-key.invariant)

pub loop-key-preserved : goal.loop-key-preserved
loop-key-preserved c =
    let d : Bor (List ℕ) = record { ref_ptr = (0, 0); now = [] } in
    omega (arith, sum_past c.args.keys.now d c.loop-key.key-index c.loop-key-test.true, c.loop-key.invariant)
