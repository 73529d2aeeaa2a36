use Rattle.std.proofs.Common.{◌≡◌, nat_lt, to_z, of_z, to_z-of_z, FitsSigned, w32, rules, ap, ◌∙◌}
use Rattle.timeline.proofs.TimelineEntries.{is_there}
use Rattle.timeline.proofs.CheckLaws.{entry_told, offset_read}
use Rattle.timeline.proofs.check.fault_at.Goals as goal

pub returns : goal.returns
returns c =
    let z = c.args.zone.now in
    let n = c.args.n in
    let there = is_there z.table n c.requires.within in
    let fits : FitsSigned w32 c.seconds-after.result = search rules in
    let after : to_z w32 (of_z w32 c.seconds-after.result) ≡ there.0.offset = to_z-of_z fits ∙ c.seconds-after.ensures ∙ offset_read z.table n c.offset_at.result there.0 c.offset_at.ensures there.1 in
    entry_told z.initial z.table z.early z.late n c.args.limit there.0 (nat_lt n c.early.result) c.is_late-late.result c.walls_before-before.result c.walls_at-walls.result (to_z w32 (of_z w32 c.seconds-after.result)) c.entry_fault.result
    there.1 (ap (nat_lt n) c.early.ensures) (rw (c.len.ensures, c.late.ensures) at c.is_late-late.ensures) c.walls_before-before.ensures (c.walls_at-walls.ensures there.0 there.1) after c.entry_fault.ensures
