use Rattle.std.proofs.Common.{arith}
use Rattle.jiff_core.proofs.SignedLemmas.{signed_casts, int_rem_euclid-parts, bits_of_nonnegative}
use Rattle.civil.proofs.calendar.cycles.Goals as goal

pub returns-clause-parts : goal.returns-clause-parts
returns-clause-parts c = omega (arith, signed_casts, int_rem_euclid-parts, bits_of_nonnegative)
