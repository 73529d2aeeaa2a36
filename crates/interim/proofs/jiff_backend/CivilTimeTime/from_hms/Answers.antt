use Rattle.std.proofs.Common.{arith}
use Rattle.civil.specs.Clock.{IsClock}
use Rattle.jiff_core.proofs.SignedLemmas.{signed_casts}
use Rattle.jiff_core.specs.Time.{time_seconds}
use Rattle.interim.proofs.Stretches.{found_time, no_time}
use Rattle.interim.proofs.jiff_backend.CivilTimeTime.from_hms.Goals as goal
use Rattle.interim.proofs.jiff_backend.CivilTimeTime.from_hms.Goals.{then-h-ge24-via-then-h-ge24, then-h-ge24-via-else-h-ge24+then-m-ge60, then-h-ge24-via-else-h-ge24+else-m-ge60+then-s-ge60}

pub returns-then-h-ge24 : goal.returns-then-h-ge24
returns-then-h-ge24 c =
    no_time c.args.h c.args.m c.args.s (λ is.
    elim c.then-h-ge24.branch [
      | then-h-ge24-via-then-h-ge24 w ↦ omega (arith, is.in_day, w.if-h-ge24)
      | then-h-ge24-via-else-h-ge24+then-m-ge60 w ↦ omega (arith, is.in_hour, w.if-m-ge60)
      | then-h-ge24-via-else-h-ge24+else-m-ge60+then-s-ge60 w ↦ omega (arith, is.in_minute, w.if-s-ge60)
    ])

pub returns : goal.returns
returns c =
    let time = c.time.result in
    let parts = c.time.ensures in
    let is : IsClock c.args.h c.args.m c.args.s = record { in_day = omega (arith, c.if-h-ge24.false); in_hour = omega (arith, c.if-m-ge60.false); in_minute = omega (arith, c.if-s-ge60.false) } in
    found_time c.args.h c.args.m c.args.s (time_seconds time) time.subsec_nanosecond is (omega (arith, signed_casts, is.in_day, is.in_hour, is.in_minute, parts.0, parts.1, parts.2)) (omega (arith, signed_casts, parts.3))
