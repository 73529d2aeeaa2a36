use Rattle.interim.proofs.PlainWalls.{plain_inside}
use Rattle.interim.proofs.laws.plain_forms_are_inside.Goals as goal

pub returns : goal.returns
returns c =
    plain_inside (record { counts = c.counts_years.ensures; dates = c.dates_are_days.ensures; months = c.month_days_are_days.ensures; years = c.years_have_their_days.ensures })
