use Rattle.std.proofs.Common.{arith}
use Rattle.jiff_core.proofs.SignedLemmas.{signed_casts}
use Rattle.timeline.proofs.check.lie_in.Goals as goal

pub returns-then-begin_from : goal.returns-then-begin_from
returns-then-begin_from c =
    let begin = c.begin_from.ensures.0 c.if-begin_from.true in (
      λ t. let end = c.end_before.ensures.0 t in (
        record { since = omega (arith, signed_casts, begin.since); earliest = omega (arith, signed_casts, begin.earliest) },
        record { since = omega (arith, signed_casts, end.since); latest = omega (arith, signed_casts, end.latest) },
      ),
      λ h. c.end_before.ensures.1 (record { since = omega (arith, signed_casts, h.1.since); latest = omega (arith, signed_casts, h.1.latest) }),
    )
