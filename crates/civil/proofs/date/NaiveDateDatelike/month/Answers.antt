use Rattle.std.proofs.Common.{refl, arith}
use Rattle.jiff_core.proofs.SignedLemmas.{signed_arith}
use Rattle.civil.proofs.DateOfDay.{moved_date}
use Rattle.civil.proofs.date.NaiveDateDatelike.month.Goals as goal

pub returns : goal.returns
returns c =
    let is = c.year_month_day.ensures in
    let date = moved_date _ c.args.self.now _ c.year_month_day.result.0 _ _ (omega (arith, signed_arith, c.self.invariant.first, c.self.invariant.last, c.self.view_is)) refl is in
    (c.year_month_day.result.0, c.year_month_day.result.2, date)
