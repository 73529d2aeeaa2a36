use Rattle.std.proofs.Common.{ℕ, List, [], ◌∙◌, sym, Bor, arith}
use Rattle.resb.proofs.PoolSearch.{told_there, told_past, end_past}
use Rattle.resb.proofs.pool.place_among.Goals as goal

pub returns-then-eq : goal.returns-then-eq
returns-then-eq c =
    told_there c.args.keys.now _ c.args.key.now c.loop-other.place c.loop-other.other-index c.loop-other-test.true (sym c.eq.ensures ∙ c.if-eq.true) ∙ c.loop-other.invariant.0

pub loop-other-preserved : goal.loop-other-preserved
loop-other-preserved c =
    let d : Bor (List ℕ) = record { ref_ptr = (0, 0); now = [] } in (
      sym (told_past c.args.keys.now d c.args.key.now c.loop-other.place c.loop-other.other-index c.loop-other-test.true (sym c.eq.ensures ∙ c.if-eq.false)) ∙ c.loop-other.invariant.0,
      omega (arith, end_past c.args.keys.now d c.loop-other.place c.loop-other.other-index c.loop-other-test.true),
    )
