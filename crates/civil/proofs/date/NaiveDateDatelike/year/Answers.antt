use Rattle.std.proofs.Common.{to_z, of_z, w32, arith}
use Rattle.jiff_core.proofs.SignedLemmas.{signed_arith}
use Rattle.civil.proofs.DateOfDay.{moved_date}
use Rattle.civil.proofs.date.NaiveDateDatelike.year.Goals as goal

pub returns : goal.returns
returns c =
    let is = c.year_month_day.ensures in
    let date = moved_date _ c.args.self.now _ (to_z w32 (of_z w32 c.year_month_day.result.0)) _ _ (omega (arith, signed_arith, c.self.invariant.first, c.self.invariant.last, c.self.view_is)) (omega (arith, signed_arith, is.exists.first_year, is.exists.last_year)) is in
    (c.year_month_day.result.1, c.year_month_day.result.2, date)
