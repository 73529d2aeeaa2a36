use Rattle.civil.proofs.DateMoves.{month_days}
use Rattle.civil.proofs.laws.month_days_are_days.Goals as goal

pub returns : goal.returns
returns c = month_days
