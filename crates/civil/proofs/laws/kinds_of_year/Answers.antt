use Rattle.civil.proofs.YearKinds.{kind_below, days_in_month-leap, same_kind, weekday_of-later, kind_occurs}
use Rattle.civil.proofs.laws.kinds_of_year.Goals as goal

pub returns : goal.returns
returns c = record {
  few = kind_below;
  months = λ y z same. days_in_month-leap y z (same_kind y z same).0;
  weekdays = λ y z same n. weekday_of-later _ _ n (same_kind y z same).1;
  occur = kind_occurs;
}
