use Rattle.std.proofs.Common.{◌-◌, w64, refl, sym, ◌∙◌, arith}
use Rattle.std.proofs.lemmas.Int.{to_z-of_z}
use Rattle.timeline.proofs.TableRanges.{said_before}
use Rattle.timeline.proofs.lookups.answer_around.Goals as goal

pub returns-in-Some : goal.returns-in-Some
returns-in-Some g c =
    let wall = to_z-of_z w64 c.args.wall c.ranges.wall in
    let said = sym c.in-Some.is ∙ (rw wall at c.answer_by.ensures) in
    said_before c.args.zone.now c.args.wall (c.args.number - 1) c.args.number _ _ _ (omega arith) c.table_entry-entry.ensures.value c.before_entry-before.ensures (rw (← said) refl)

pub returns-in-None : goal.returns-in-None
returns-in-None g c =
    let wall = to_z-of_z w64 c.args.wall c.ranges.wall in
    let said = sym c.in-None.is ∙ (rw wall at c.answer_by.ensures) in
    said_before c.args.zone.now c.args.wall (c.args.number - 1) c.args.number _ _ _ (omega arith) c.table_entry-entry.ensures.value c.before_entry-before.ensures (rw (← said) (rw wall at c.next_answer-in-None.ensures))
