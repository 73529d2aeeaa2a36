-- The day numbers of the first and the last date.
use Rattle.std.proofs.Common.{◌≡◌, arith, pos, negsuc}
use Rattle.civil.specs.Calendar.{days_of_months, day_of}
use Rattle.jiff_core.proofs.SignedLemmas.{signed_arith}
use Rattle.civil.proofs.CalendarLemmas.{day_of-is, first_start, last_start, year_start-next}

-- -262143-01-01
pub first_day : day_of (negsuc 262142) 1 1 ≡ negsuc 96465291
unfolding days_of_months
first_day = omega (arith, signed_arith, day_of-is (negsuc 262142) 1 1, first_start)

-- +262142-12-31
pub last_day : day_of (pos 262142) 12 31 ≡ pos 95026236
unfolding days_of_months
last_day = omega (arith, signed_arith, day_of-is (pos 262142) 12 31, year_start-next (pos 262142), last_start)
