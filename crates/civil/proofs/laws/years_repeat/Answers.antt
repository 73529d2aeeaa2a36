use Rattle.civil.proofs.CalendarCycle.{year_start-400}
use Rattle.civil.proofs.YearKinds.{year_kind-400}
use Rattle.civil.proofs.laws.years_repeat.Goals as goal

pub returns : goal.returns
returns c = record {
  start = year_start-400;
  kind = year_kind-400;
}
