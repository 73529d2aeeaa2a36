use Rattle.std.proofs.Common.{arith, ◌-◌}
use Rattle.civil.proofs.CalendarLemmas.{month_start-is, months_few}
use Rattle.std.proofs.lemmas.Grind.{common_steps}
use Rattle.civil.proofs.calendar.days_before_month.Goals as goal

pub returns-then-is_leap-clause-value : goal.returns-then-is_leap-clause-value
returns-then-is_leap-clause-value c = grind (arith, common_steps, month_start-is c.args.year (c.args.month - 1) (omega arith))

pub returns-else-month-gt2-clause-value : goal.returns-else-month-gt2-clause-value
returns-else-month-gt2-clause-value c = grind (arith, common_steps, month_start-is c.args.year (c.args.month - 1) (omega arith))

pub returns-then-is_leap-clause-bound : goal.returns-then-is_leap-clause-bound
returns-then-is_leap-clause-bound c = grind (arith, common_steps, month_start-is c.args.year (c.args.month - 1) (omega arith), months_few c.args.year (c.args.month - 1) (omega arith))

pub returns-else-month-gt2-clause-bound : goal.returns-else-month-gt2-clause-bound
returns-else-month-gt2-clause-bound c = omega (arith, month_start-is c.args.year (c.args.month - 1) (omega arith), months_few c.args.year (c.args.month - 1) (omega arith))
