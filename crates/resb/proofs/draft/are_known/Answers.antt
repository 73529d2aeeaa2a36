use Rattle.std.proofs.Common.{◌∙◌, sym, ℕ, List, [], Bor}
use Rattle.resb.specs.Pool.{bare}
use Rattle.resb.proofs.PlacedKeys.{unknown, known}
use Rattle.resb.proofs.draft.are_known.Goals as goal

pub returns-in_default : goal.returns-in_default
returns-in_default c =
    let d : Bor (List ℕ) = record { ref_ptr = (0, 0); now = [] } in
    unknown c.args.keys.now d c.loop-key.key-index c.loop-key-test.true (bare c.args.pool.now.keys.items) c.in_default.ensures ∙ c.loop-key.invariant

pub loop-key-preserved : goal.loop-key-preserved
loop-key-preserved c =
    let d : Bor (List ℕ) = record { ref_ptr = (0, 0); now = [] } in
    sym (known c.args.keys.now d c.loop-key.key-index c.loop-key-test.true (bare c.args.pool.now.keys.items) c.in-Some._place c.in-Some.ensures) ∙ c.loop-key.invariant
