use Rattle.timeline.proofs.OffsetChanges.{changes_at_entry}
use Rattle.timeline.proofs.laws.offsets_change_at_entries.Goals as goal

pub returns : goal.returns
returns c = changes_at_entry
