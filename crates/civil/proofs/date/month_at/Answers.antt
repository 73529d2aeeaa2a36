use Rattle.std.proofs.Common.{◌≡◌, ◌+◌, ◌-◌, ◌/◌, to_z-of_z, ap, ◌∙◌, arith}
use Rattle.civil.specs.Calendar.{days_of_months}
use Rattle.civil.proofs.CalendarLemmas.{near_month}
use Rattle.civil.proofs.date.month_at.Goals as goal
use Rattle.civil.proofs.date.month_at.Goals.{else-month-lt12-via-then-month-lt12+else-days_before_month-ordinal, else-month-lt12-via-else-month-lt12}

pub returns-then-days_before_month-ordinal-clause-high : goal.returns-then-days_before_month-ordinal-clause-high
returns-then-days_before_month-ordinal-clause-high c = let near = near_month c.args.year c.args.ordinal c.requires in near.not_over (omega arith)

pub returns-else-month-lt12-clause-low : goal.returns-else-month-lt12-clause-low
returns-else-month-lt12-clause-low c = let near = near_month c.args.year c.args.ordinal c.requires in near.begun

pub returns-else-month-lt12-clause-high : goal.returns-else-month-lt12-clause-high
returns-else-month-lt12-clause-high c =
    let near = near_month c.args.year c.args.ordinal c.requires in
    elim c.else-month-lt12.branch [
      | else-month-lt12-via-then-month-lt12+else-days_before_month-ordinal w ↦
          let before = w.days_before_month.ensures.value ∙ ap (λ y. days_of_months y (c.args.ordinal / 32 + 1 + 1 - 1)) (to_z-of_z c.ranges.year) in
          let same : c.args.ordinal / 32 + 1 + 1 - 1 ≡ c.args.ordinal / 32 + 1 = omega arith in
          omega (arith, before, ap (days_of_months c.args.year) same)
      | else-month-lt12-via-else-month-lt12 w ↦ near.last (λ more. omega arith)
    ]
