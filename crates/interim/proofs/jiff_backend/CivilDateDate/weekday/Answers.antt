use Rattle.std.proofs.Common.{arith}
use Rattle.jiff_core.specs.Date.{epoch_day}
use Rattle.jiff_core.proofs.SignedLemmas.{signed_casts}
use Rattle.interim.proofs.JiffDays.{same_weekday}
use Rattle.interim.proofs.jiff_backend.CivilDateDate.weekday.Goals as goal

pub returns : goal.returns
returns c =
    let bound = c.to_monday_zero_offset.ensures.bound in
    omega (arith, signed_casts, same_weekday (epoch_day c.args.self.now), c.weekday.ensures, c.to_monday_zero_offset.ensures.value, bound.0, bound.1)
