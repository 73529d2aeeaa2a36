use Rattle.std.proofs.Common.{get_or, Some, sym, ap, ◌∙◌, arith}
use Rattle.timeline.specs.Table.{pair_offset}
use Rattle.timeline.proofs.TableEntries.{length-table_from, entry_offset, pair_fits, pair_is}
use Rattle.timeline.proofs.data.ZoneData.offset_at.Goals as goal

pub bounds-as_slice-n : goal.bounds-as_slice-n
bounds-as_slice-n c =
    let inside = c.self.inside in
    let same = length-table_from inside.type_offsets.items inside.seconds.list inside.type_map c.self.invariant.len in
    let within = rw (← c.self.view_is) at c.requires in
    let len = c.self.invariant.len in
    rw c.as_slice.ensures (omega (arith, same, within, len))

pub offset_of_pair-requires : goal.offset_of_pair-requires
offset_of_pair-requires c =
    let inside = c.self.inside in
    let same = length-table_from inside.type_offsets.items inside.seconds.list inside.type_map c.self.invariant.len in
    let within = rw (← c.self.view_is) at c.requires in
    let len = c.self.invariant.len in
    let known = c.self.invariant.known c.args.n 0 (omega (arith, same, within, len)) in
    pair_fits inside.type_offsets.items (get_or inside.type_map c.args.n 0) c.index.result.now c.index.result.now c.self.invariant.fit known (rw c.as_slice.ensures at c.index.ensures)

pub returns : goal.returns
returns c =
    let inside = c.self.inside in
    let same = length-table_from inside.type_offsets.items inside.seconds.list inside.type_map c.self.invariant.len in
    let within = rw (← c.self.view_is) at c.requires in
    let len = c.self.invariant.len in
    let known = c.self.invariant.known c.args.n 0 (omega (arith, same, within, len)) in
    let pair = pair_is inside.type_offsets.items (get_or inside.type_map c.args.n 0) c.index.result.now c.index.result.now known (rw c.as_slice.ensures at c.index.ensures) in
    rw (← c.self.view_is)
    (entry_offset inside.type_offsets.items inside.seconds.list inside.type_map c.args.n len within ∙ ap Some (sym (c.offset_of_pair.ensures ∙ ap pair_offset pair)))
