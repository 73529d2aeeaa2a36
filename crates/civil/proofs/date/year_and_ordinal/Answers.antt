use Rattle.std.proofs.Common.{◌+◌, to_z, of_z, w32, arith}
use Rattle.civil.specs.CivilDates.{HoldsDay}
use Rattle.civil.specs.Inside.Years.{IsYear}
use Rattle.jiff_core.proofs.SignedLemmas.{signed_arith}
use Rattle.civil.proofs.DateOfDay.{year_in_calendar}
use Rattle.civil.proofs.Setters.{ordinal_day-is}
use Rattle.civil.proofs.date.year_and_ordinal.Goals as goal
use Rattle.civil.proofs.date.year_and_ordinal.Goals.{After-ordinal_in}

-- the year that was found is one of the calendar
years : (c : After-ordinal_in) → IsYear c.year_in-year.result
years c =
    let holds : HoldsDay c.year_in-year.result c.args.day = record {
      begun = omega (arith, signed_arith, c.year_in-year.ensures.begun);
      not_over = omega (arith, signed_arith, c.year_in-year.ensures.not_over);
    } in
    year_in_calendar c.year_in-year.result c.args.day holds c.requires

pub returns-clause-place : goal.returns-clause-place
returns-clause-place c =
    let o = c.ordinal_in.ensures in
    let at = ordinal_day-is (to_z w32 (of_z w32 c.year_in-year.result)) (c.ordinal_in.result + 1) in
    record {
      exists = record { first = omega arith; last = omega (arith, o.bound) };
      is = omega (arith, signed_arith, o.value, at);
    }

pub returns-clause-year : goal.returns-clause-year
returns-clause-year c =
    let y = years c in
    record { first = omega (arith, signed_arith, y.first, y.last); last = omega (arith, signed_arith, y.first, y.last) }
