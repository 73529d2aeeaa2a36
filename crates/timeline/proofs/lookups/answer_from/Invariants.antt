use Rattle.std.proofs.Common.{◌≡◌, drop}
use Rattle.timeline.specs.Inside.AnswerSteps.{answer_from}
use Rattle.timeline.proofs.lookups.answer_from.Given as goal

abbrev pub invariant-loop-entry : goal.invariant-loop-entry
invariant-loop-entry l = answer_from l.wall l.fn.before l.entries ≡ answer_from l.wall l.before (drop l.entry-index l.entries)
