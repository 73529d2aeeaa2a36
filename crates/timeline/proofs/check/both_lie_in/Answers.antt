use Rattle.std.proofs.Common.{arith}
use Rattle.jiff_core.proofs.SignedLemmas.{signed_casts}
use Rattle.timeline.proofs.check.both_lie_in.Goals as goal

pub returns-then-lie_in : goal.returns-then-lie_in
returns-then-lie_in c =
    let first = c.lie_in.ensures.0 c.if-lie_in.true in (
      λ t. let second = c.lie_in-then-lie_in.ensures.0 t in (
        (
          record { since = omega (arith, signed_casts, first.0.since); earliest = omega (arith, signed_casts, first.0.earliest) },
          record { since = omega (arith, signed_casts, first.1.since); latest = omega (arith, signed_casts, first.1.latest) },
        ),
        (
          record { since = omega (arith, signed_casts, second.0.since); earliest = omega (arith, signed_casts, second.0.earliest) },
          record { since = omega (arith, signed_casts, second.1.since); latest = omega (arith, signed_casts, second.1.latest) },
        ),
      ),
      λ h. c.lie_in-then-lie_in.ensures.1 (
        record { since = omega (arith, signed_casts, h.1.0.since); earliest = omega (arith, signed_casts, h.1.0.earliest) },
        record { since = omega (arith, signed_casts, h.1.1.since); latest = omega (arith, signed_casts, h.1.1.latest) },
      ),
    )
