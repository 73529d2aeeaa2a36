use Rattle.std.proofs.Common.{arith}
use Rattle.civil.specs.Inside.LeapDays.{leap_days_to}
use Rattle.jiff_core.proofs.SignedLemmas.{signed_arith}
use Rattle.civil.proofs.calendar.leap_days.Goals as goal

pub returns : goal.returns
unfolding leap_days_to
returns c = omega (arith, signed_arith)
