use Rattle.std.proofs.Common.{arith, to_z, of_z, w32, w64, ◌+ℤ◌, ◌-ℤ◌, ◌*ℤ◌, pos}
use Rattle.jiff_core.proofs.SignedLemmas.{signed_arith, one_part}
use Rattle.civil.proofs.CalendarLemmas.{year_start-closed, leap_days_bound}
use Rattle.civil.proofs.calendar.days_before_year.Goals as goal

pub overflow_add-result : goal.overflow_add-result
overflow_add-result c =
    let x = to_z w64 (of_z w64 (to_z w64 (of_z w64 (to_z w32 (of_z w32 c.args.year))) -ℤ pos 1)) in
    omega (arith, signed_arith, leap_days_bound x)

pub overflow_sub-result : goal.overflow_sub-result
overflow_sub-result c =
    let x = to_z w64 (of_z w64 (to_z w64 (of_z w64 (to_z w32 (of_z w32 c.args.year))) -ℤ pos 1)) in
    omega (arith, signed_arith, leap_days_bound x)

pub returns : goal.returns
returns c =
    let x = to_z w64 (of_z w64 (to_z w64 (of_z w64 (to_z w32 (of_z w32 c.args.year))) -ℤ pos 1)) in
    let day = to_z w64 (of_z w64 (to_z w64 (of_z w64 (to_z w64 (of_z w64 (pos 365 *ℤ x)) +ℤ to_z w64 (of_z w64 c.leap_days.result))) -ℤ pos 719162)) in
    omega (arith, signed_arith, leap_days_bound x, year_start-closed c.args.year x (omega (arith, signed_arith)), one_part day)
