use Rattle.std.proofs.Common.{w64, ◌∙◌}
use Rattle.std.proofs.lemmas.Int.{to_z-of_z}
use Rattle.timeline.proofs.TableRanges.{said_past, said_next}
use Rattle.timeline.proofs.lookups.next_answer.Goals as goal

pub returns-then-number-len : goal.returns-then-number-len
returns-then-number-len g c = said_past c.args.zone.now c.args.wall c.args.number _ (c.if-number-len.true ∙ c.len.ensures) c.before_entry-before.ensures

pub returns : goal.returns
returns g c =
    let wall = to_z-of_z w64 c.args.wall c.ranges.wall in
    said_next c.args.zone.now c.args.wall c.args.number _ _ _ c.table_entry-entry.ensures.value c.before_entry-before.ensures (rw wall at c.answer_from.ensures)
