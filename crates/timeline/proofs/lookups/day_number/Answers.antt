use Rattle.std.proofs.Common.{w32, arith}
use Rattle.std.proofs.lemmas.Int.{ints, to_z-of_z}
use Rattle.civil.specs.Calendar.{day_of}
use Rattle.timeline.proofs.lookups.day_number.Goals as goal

pub returns-clause-value : goal.returns-clause-value
unfolding day_of
returns-clause-value c =
    let year = to_z-of_z w32 c.args.year c.ranges.year in
    let start = rw year at c.days_before_year.ensures.value in
    let months = rw year at c.days_before_month-months.ensures.value in
    omega (arith, ints, start, months)
