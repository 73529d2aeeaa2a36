use Rattle.std.proofs.Common.{refl}
use Rattle.interim.specs.Walls.{Wall, month_day}
use Rattle.interim.specs.NamedDates.{week_day}
use Rattle.interim.proofs.Answered.{gives_wants}
use Rattle.interim.proofs.resolve.named_day.Goals as goal

pub returns-in-WeekDay : goal.returns-in-WeekDay
returns-in-WeekDay g c =
    let base : Wall = record { day = g.Dt.Date.Date.number c.args.base; time = g.Dt.Time.Time.time c.args.time } in
    rw c.in-WeekDay.is (week_day g.Dt.Date.Date.calendar base c.args.dialect c.in-WeekDay.weekday c.args.direction c.args.clock, refl, c.week_day.ensures)

pub returns-in-MonthName : goal.returns-in-MonthName
returns-in-MonthName g c =
    let date = c.month_day.ensures in
    rw c.in-MonthName.is (
      month_day g.Dt.Date.Date.calendar (g.Dt.Date.Date.number c.args.base) date.0 c.in-MonthName.month 1 c.args.direction,
      (date.0, date.1, date.2, date.3, refl),
      gives_wants g.Dt.Date.Date.memory g.Dt.DateTime.memory _ _ _ g.met.Dt.DateTime.date_wants date.4,
    )

pub returns-in-DayMonth : goal.returns-in-DayMonth
returns-in-DayMonth g c =
    let date = c.month_day-in-DayMonth.ensures in
    rw c.in-DayMonth.is (
      month_day g.Dt.Date.Date.calendar (g.Dt.Date.Date.number c.args.base) date.0 c.in-DayMonth.month c.in-DayMonth.day c.args.direction,
      (date.0, date.1, date.2, date.3, refl),
      gives_wants g.Dt.Date.Date.memory g.Dt.DateTime.memory _ _ _ g.met.Dt.DateTime.date_wants date.4,
    )
