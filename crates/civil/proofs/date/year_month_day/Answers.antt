use Rattle.std.proofs.Common.{◌≡◌, ℕ, pos, ◌+ℤ◌, ◌-◌, to_z, of_z, to_z-of_z, w32, FitsSigned, rules, refl, sym, ap, ◌∙◌, arith}
use Rattle.civil.specs.Calendar.{year_start, days_of_months}
use Rattle.civil.specs.CivilDates.{HoldsDay}
use Rattle.jiff_core.proofs.SignedLemmas.{signed_arith}
use Rattle.civil.proofs.DateOfDay.{date_by_parts, moved_date}
use Rattle.civil.proofs.date.year_month_day.Goals as goal

pub returns : goal.returns
returns c =
    let fits : FitsSigned w32 c.year_in-year.result = search rules in
    let same : to_z w32 (of_z w32 c.year_in-year.result) ≡ c.year_in-year.result = to_z-of_z fits in
    let holds : HoldsDay c.year_in-year.result c.args.day = record {
      begun = omega (arith, signed_arith, c.year_in-year.ensures.begun);
      not_over = omega (arith, signed_arith, c.year_in-year.ensures.not_over);
    } in
    let ordinal : c.args.day ≡ year_start c.year_in-year.result +ℤ pos c.ordinal_in-ordinal.result = omega (arith, signed_arith, c.ordinal_in-ordinal.ensures.value, ap year_start same) in
    let months = λ (n : ℕ). ap (λ y. days_of_months y n) same in
    let month = c.month_at-month.result in
    moved_date _ _ _ _ _ _ refl (sym same)
    (date_by_parts c.args.day c.year_in-year.result c.ordinal_in-ordinal.result month c.days_before_month.result c.requires holds ordinal c.month_at-month.ensures.first c.month_at-month.ensures.last
    (c.days_before_month.ensures.value ∙ months (month - 1))
    (omega (arith, c.month_at-month.ensures.low, months (month - 1)))
    (omega (arith, c.month_at-month.ensures.high, months month)))
