use Rattle.std.proofs.Common.{arith, ◌-◌, to_z, of_z, to_z-of_z, w32, ◌≡◌, ap, ◌∙◌}
use Rattle.civil.specs.CivilDates.{IsDate}
use Rattle.civil.specs.Calendar.{year_start, days_of_months, days_in_month}
use Rattle.jiff_core.proofs.SignedLemmas.{signed_arith, signed_casts}
use Rattle.civil.proofs.CalendarLemmas.{code_day, CodeDay}
use Rattle.civil.proofs.date.NaiveDate.from_ymd_opt.Goals as goal
use Rattle.civil.proofs.date.NaiveDate.from_ymd_opt.Goals.{After-days_before_month}

-- what the parts that were tested and computed say
parts : (c : After-days_before_month) → CodeDay c.args.year c.args.month c.args.day c.days_before_year.result c.days_before_month.result
parts c =
    let same : to_z w32 (of_z w32 c.args.year) ≡ c.args.year = to_z-of_z c.ranges.year in
    let length = c.month_length.ensures ∙ ap (λ y. days_in_month y c.args.month) same in
    let is : IsDate c.args.year c.args.month c.args.day = record {
      first_year = omega (arith, signed_arith);
      last_year = omega (arith, signed_arith);
      first_month = omega arith;
      last_month = omega arith;
      first_day = omega arith;
      last_day = omega (arith, length);
    } in
    code_day _ _ _ _ _ is (c.days_before_year.ensures.value ∙ ap year_start same) (c.days_before_month.ensures.value ∙ ap (λ y. days_of_months y (c.args.month - 1)) same)

pub overflow_add-number : goal.overflow_add-number
overflow_add-number c = let p = parts c in omega (arith, p.small)

pub overflow_add-number-2 : goal.overflow_add-number-2
overflow_add-number-2 c = let p = parts c in omega (arith, signed_casts, p.small, p.inside.first, p.inside.last)

pub overflow_cast-result : goal.overflow_cast-result
overflow_cast-result c = let p = parts c in omega (arith, signed_casts, p.small, p.inside.first, p.inside.last)

pub invariant_of-result : goal.invariant_of-result
invariant_of-result c =
    let p = parts c in
    record {
      first = omega (arith, signed_casts, p.small, p.inside.first, p.inside.last);
      last = omega (arith, signed_casts, p.small, p.inside.first, p.inside.last);
    }

pub returns-clause-value : goal.returns-clause-value
returns-clause-value c = let p = parts c in omega (arith, signed_casts, p.small, p.inside.first, p.inside.last, p.whole)
