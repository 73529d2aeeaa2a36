use Rattle.std.proofs.Common.{◌≡◌, ◌+◌, ◌-◌, sym, ap, ◌∙◌, pos, arith}
use Rattle.civil.specs.Calendar.{days_of_months}
use Rattle.timeline.proofs.DatePlaces.{months_in_common, months_in_leap}
use Rattle.timeline.proofs.dates.month_place.Goals as goal

pub returns-then-kind-lt7-clause-value : goal.returns-then-kind-lt7-clause-value
returns-then-kind-lt7-clause-value c = λ y kind.
    let back : c.args.month + 1 - 1 ≡ c.args.month = omega arith in
    c.days_before_month.ensures.value ∙ ap (days_of_months (pos 2001)) back ∙ sym (months_in_common y c.args.kind kind (omega arith) c.args.month)

pub returns-clause-value : goal.returns-clause-value
returns-clause-value c = λ y kind.
    let back : c.args.month + 1 - 1 ≡ c.args.month = omega arith in
    c.days_before_month-2.ensures.value ∙ ap (days_of_months (pos 2000)) back ∙ sym (months_in_leap y c.args.kind kind (omega arith) c.args.month)
