use Rattle.std.proofs.Common.{sym, ◌∙◌}
use Rattle.timeline.proofs.TableEntries.{length-table_from}
use Rattle.timeline.proofs.data.ZoneData.len.Goals as goal

pub returns : goal.returns
returns c =
    let inside = c.self.inside in
    rw (← c.self.view_is) (c.len.ensures ∙ sym (length-table_from inside.type_offsets.items inside.seconds.list inside.type_map c.self.invariant.len))
