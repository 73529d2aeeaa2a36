use Rattle.timeline.proofs.Entries.{last-holds}
use Rattle.timeline.proofs.laws.last_entry_holds.Goals as goal

pub returns : goal.returns
returns c = last-holds
