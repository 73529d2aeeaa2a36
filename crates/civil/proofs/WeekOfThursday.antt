-- The week of a day, by the place of its Thursday in the year.
use Rattle.std.proofs.Common.{◌≡◌, ℕ, ◌+◌, ◌/◌, arith, ℤ, pos, ◌+ℤ◌}
use Rattle.civil.specs.Calendar.{year_start, thursday_of}
use Rattle.civil.specs.CivilDates.{HoldsDay}
use Rattle.civil.specs.Weeks.{IsWeekOf}
use Rattle.jiff_core.proofs.SignedLemmas.{signed_arith}

pub week_by_ordinal : (day y t : ℤ) (n : ℕ) → t ≡ thursday_of day → HoldsDay y t → t ≡ year_start y +ℤ pos n → IsWeekOf day y (n / 7 + 1)
week_by_ordinal day y t n e holds ordinal = record {
  year = record {
    begun = omega (arith, signed_arith, e, holds.begun);
    not_over = omega (arith, signed_arith, e, holds.not_over);
  };
  from = omega (arith, signed_arith, e, ordinal);
  to = omega (arith, signed_arith, e, ordinal);
}
