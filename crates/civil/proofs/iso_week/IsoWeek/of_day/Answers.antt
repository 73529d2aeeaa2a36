use Rattle.std.proofs.Common.{◌≡◌, ◌∙◌, false, true, arith, rules, pos, ℤ, ◌+ℤ◌, to_z, of_z, to_z-of_z, w32, w64, FitsSigned, ap}
use Rattle.civil.specs.Calendar.{year_start, thursday_of}
use Rattle.jiff_core.proofs.SignedLemmas.{signed_arith}
use Rattle.civil.proofs.CalendarLemmas.{first_start_i32, last_start_i32}
use Rattle.civil.proofs.WeekOfThursday.{week_by_ordinal}
use Rattle.civil.proofs.iso_week.IsoWeek.of_day.Goals as goal

pub unreachable-requires : goal.unreachable-requires
unreachable-requires c =
    let at = c.thursday_in-thursday.ensures in
    let no : false ≡ true = c.in-None.ensures.some.1 (omega (arith, signed_arith, first_start_i32, at.bound), omega (arith, signed_arith, last_start_i32, at.bound)) in
    cc

pub returns : goal.returns
returns c =
    let at = c.thursday_in-thursday.ensures in
    let day : to_z w64 (of_z w64 c.args.day) ≡ c.args.day = to_z-of_z c.ranges.day in
    let fits : FitsSigned w32 c.in-Some.year = search rules in
    let same : to_z w32 (of_z w32 c.in-Some.year) ≡ c.in-Some.year = to_z-of_z fits in
    let next = ap (λ (y : ℤ). year_start (y +ℤ pos 1)) same in
    let holds = c.in-Some.ensures.year in
    let ordinal = c.ordinal_in.ensures.value in
    week_by_ordinal c.args.day _ c.thursday_in-thursday.result c.ordinal_in.result (at.value ∙ ap thursday_of day)
    (record {
      begun = omega (arith, signed_arith, at.bound, holds.begun, ap year_start same);
      not_over = omega (arith, signed_arith, at.bound, holds.not_over, next);
    })
    (omega (arith, signed_arith, at.bound, ordinal, ap year_start same))
