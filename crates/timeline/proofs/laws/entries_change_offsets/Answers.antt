use Rattle.timeline.proofs.OffsetChanges.{sides_of_entry}
use Rattle.timeline.proofs.laws.entries_change_offsets.Goals as goal

pub returns : goal.returns
returns c = sides_of_entry
