use Rattle.interim.specs.DatesAndTimes.{time_at}
use Rattle.interim.proofs.resolve.deciding_time.Goals as goal

pub returns-in-None : goal.returns-in-None
unfolding time_at
returns-in-None g c = rw c.in-None.is c.from_hms.ensures
