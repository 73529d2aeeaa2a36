use Rattle.std.proofs.Common.{arith}
use Rattle.std.proofs.lemmas.Int.{ints}
use Rattle.civil.proofs.CalendarCycle.{year_in_cycle}
use Rattle.civil.proofs.calendar.year_near.Goals as goal

pub returns : goal.returns
returns c =
    let years = c.years_in_cycle.ensures in
    let q = c.cycles-cycles.result.0 in
    let n = c.years_in_cycle.result in
    year_in_cycle c.args.day q _ n c.cycles-cycles.result.1 (omega (arith, ints)) (omega (arith, ints)) years.bound years.low years.high
