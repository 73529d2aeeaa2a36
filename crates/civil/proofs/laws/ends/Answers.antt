use Rattle.std.proofs.Common.{arith}
use Rattle.jiff_core.proofs.SignedLemmas.{signed_arith}
use Rattle.civil.proofs.DateEnds.{first_day, last_day}
use Rattle.civil.proofs.laws.ends.Goals as goal

pub returns-clause-first_date : goal.returns-clause-first_date
returns-clause-first_date c = omega (arith, signed_arith, first_day)

pub returns-clause-last_date : goal.returns-clause-last_date
returns-clause-last_date c = omega (arith, signed_arith, last_day)
