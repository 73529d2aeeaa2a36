use Rattle.std.proofs.Common.{w64, sym, ◌∙◌}
use Rattle.std.proofs.lemmas.Int.{to_z-of_z}
use Rattle.timeline.proofs.YearEntries.{before_rule, before_start, answers_by_rule_entries, answers_past_entries}
use Rattle.timeline.proofs.lookups.offsets_by.Goals as goal

pub returns-in-Table : goal.returns-in-Table
returns-in-Table c y lawful near starts is =
    let wall = to_z-of_z w64 c.args.wall c.ranges.wall in
    (rw wall at c.table_answer.ensures) lawful (before_start _ y c.args.wall near starts (before_rule _ y (sym c.in-Table.is ∙ is)))

pub returns-in-Rule : goal.returns-in-Rule
returns-in-Rule c y lawful near starts is =
    let wall = to_z-of_z w64 c.args.wall c.ranges.wall in
    let answer = rw wall at c.year_answer.ensures in
    rw answer (answers_by_rule_entries _ y c.args.wall _ _ _ lawful near starts (sym c.in-Rule.is ∙ is))

pub returns-in-Past : goal.returns-in-Past
returns-in-Past c y lawful near starts is = answers_past_entries _ y c.args.wall _ lawful near (sym c.in-Past.is ∙ is)
