use Rattle.std.proofs.Common.{pos, ◌+ℤ◌, arith}
use Rattle.jiff_core.proofs.SignedLemmas.{signed_casts}
use Rattle.civil.specs.Calendar.{year_start}
use Rattle.timeline.proofs.DatePlaces.{last_on-is}
use Rattle.timeline.proofs.dates.last_to.Goals as goal

pub returns-clause-value : goal.returns-clause-value
returns-clause-value c = λ y kind.
    let found = last_on-is 6 c.args.weekday c.weekday_at.result (year_start y +ℤ pos c.args.to) c.requires.weekday c.weekday_at.ensures.bound (c.weekday_at.ensures.value y kind) (omega arith) in
    omega (arith, signed_casts, found, c.weekday_at.ensures.bound)
