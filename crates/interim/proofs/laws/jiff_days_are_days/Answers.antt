use Rattle.interim.proofs.JiffDays.{days_are_days}
use Rattle.interim.proofs.laws.jiff_days_are_days.Goals as goal

pub returns : goal.returns
returns c = days_are_days c.counts_years.ensures c.years_have_their_days.ensures c.month_days_are_days.ensures
