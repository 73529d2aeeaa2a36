use Rattle.std.proofs.Common.{arith, to_z, of_z, w32}
use mir.Syntax.{w16}
use Rattle.jiff_core.proofs.SignedLemmas.{signed_casts}
use Rattle.interim.proofs.JiffDays.{date_of}
use Rattle.interim.proofs.jiff_backend.CivilDateDate.year.Goals as goal

pub returns-clause-year : goal.returns-clause-year
returns-clause-year c =
    let date = c.args.self.now in
    (date.month, date.day, date_of c.jiff_days_are_days.ensures date (to_z w32 (of_z w32 (to_z w16 (of_z w16 c.year.result)))) (omega (arith, signed_casts, c.year.ensures, date.year_in)))
