use Rattle.civil.proofs.CalendarLemmas.{years_have_their_days}
use Rattle.civil.proofs.laws.years_have_their_days.Goals as goal

pub returns : goal.returns
returns c = years_have_their_days
