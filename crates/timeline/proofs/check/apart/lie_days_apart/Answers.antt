use Rattle.std.proofs.Common.{pos, ◌<ℤ◌, to_z-of_z, FitsSigned, w64, rules, arith}
use Rattle.jiff_core.proofs.SignedLemmas.{signed_casts}
use Rattle.timeline.proofs.check.apart.lie_days_apart.Goals as goal

pub returns : goal.returns
returns c = λ t.
    let between = c.lies_between.ensures.0 t in
    let fits : FitsSigned w64 c.two_days_before.result = search rules in
    let same = to_z-of_z fits in
    let second = to_z-of_z c.ranges.second in
    let below : c.two_days_before.result <ℤ pos 9223372036854603008 = omega (arith, signed_casts, same, between.1) in
    let apart = c.two_days_before.ensures below in
    (omega (arith, signed_casts, same, second, between.0, apart), omega (arith, signed_casts, same, second, between.1, apart))
