use Rattle.civil.proofs.CalendarLemmas.{in_calendar}
use Rattle.civil.proofs.DateOrder.{days_in_order, date_once}
use Rattle.civil.proofs.DateOfDay.{date_of_day}
use Rattle.civil.proofs.laws.dates_are_days.Goals as goal

pub returns : goal.returns
returns c = record {
  inside = in_calendar;
  order = days_in_order;
  onto = date_of_day;
  once = date_once;
}
