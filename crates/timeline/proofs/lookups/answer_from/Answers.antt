use Rattle.std.proofs.Common.{w64}
use Rattle.std.proofs.lemmas.Int.{to_z-of_z}
use Rattle.timeline.proofs.CandidateAnswers.{said_at, said_later, said_last}
use Rattle.timeline.proofs.lookups.answer_from.Goals as goal

pub returns-in-Some : goal.returns-in-Some
returns-in-Some c =
    let wall = to_z-of_z w64 c.args.wall c.ranges.wall in
    rw wall at (said_at _ c.args.before c.loop-entry.before c.args.entries.now c.loop-entry.entry-index c.entry-item.result c.in-Some.answer
    c.loop-entry.invariant c.loop-entry-test.true c.entry-item.is c.in-Some.ensures)

pub loop-entry-preserved : goal.loop-entry-preserved
loop-entry-preserved c =
    rw c.from-before.ensures (said_later _ c.args.before c.loop-entry.before c.args.entries.now c.loop-entry.entry-index c.entry-item.result
    c.loop-entry.invariant c.loop-entry-test.true c.entry-item.is c.in_default.ensures)

pub returns : goal.returns
returns c =
    let wall = to_z-of_z w64 c.args.wall c.ranges.wall in
    rw wall at (said_last _ c.args.before c.loop-entry.before c.args.entries.now c.loop-entry.entry-index c.loop-entry.invariant c.loop-entry-test.false)
