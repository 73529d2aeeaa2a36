use Rattle.interim.proofs.SomeMeaning.{something}
use Rattle.interim.proofs.laws.parts_mean_something.Goals as goal

pub returns : goal.returns
returns c = something c.dates_are_days.ensures
