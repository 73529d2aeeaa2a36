use Rattle.interim.proofs.OneMeaning.{means_once}
use Rattle.interim.proofs.laws.parts_mean_one_thing.Goals as goal

pub returns : goal.returns
returns c = record { once = means_once c.month_days_are_days.ensures c.placed_once.ensures }
