use Rattle.std.proofs.Common.{to_z-of_z, arith}
use Rattle.jiff_core.proofs.SignedLemmas.{signed_casts}
use Rattle.timeline.proofs.check.apart.shows_laws.Goals as goal

pub returns-then-lie_days_apart : goal.returns-then-lie_days_apart
returns-then-lie_days_apart c = λ t.
    let part = c.lies_in_part.ensures t in
    let far = c.lie_days_apart.ensures c.if-lie_days_apart.true in
    let second = to_z-of_z c.ranges.second in (
      record {
        in_early = λ e. let h = part.in_early e in omega (arith, signed_casts, second, h);
        in_late = λ l. let h = part.in_late l in omega (arith, signed_casts, second, h);
      },
      (omega (arith, signed_casts, far.0), omega (arith, signed_casts, far.1)),
    )
