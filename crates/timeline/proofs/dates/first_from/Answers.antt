use Rattle.std.proofs.Common.{pos, ◌+ℤ◌, arith}
use Rattle.std.proofs.lemmas.Int.{ints}
use Rattle.civil.specs.Calendar.{year_start}
use Rattle.timeline.proofs.DatePlaces.{first_on-is}
use Rattle.timeline.proofs.dates.first_from.Goals as goal

pub returns-clause-value : goal.returns-clause-value
returns-clause-value c = λ y kind.
    let found = first_on-is 6 c.args.weekday c.weekday_at.result (year_start y +ℤ pos c.args.from) c.requires.weekday c.weekday_at.ensures.bound (c.weekday_at.ensures.value y kind) (omega arith) in
    omega (arith, ints, found)
