use Rattle.std.proofs.Common.{w64, sym, ◌∙◌}
use Rattle.std.proofs.lemmas.Int.{to_z-of_z}
use Rattle.timeline.proofs.YearEntries.{before_rule, before_start, offset_by_rule_entries, offset_past_entries}
use Rattle.timeline.proofs.lookups.offset_of_second.Goals as goal

pub returns-in-Table : goal.returns-in-Table
returns-in-Table c y lawful near starts is =
    let second = to_z-of_z w64 c.args.second c.ranges.second in
    (rw second at c.table_offset.ensures) lawful (before_start _ y c.args.second near starts (before_rule _ y (sym c.in-Table.is ∙ is)))

pub returns-in-Rule : goal.returns-in-Rule
returns-in-Rule c y lawful near starts is =
    let second = to_z-of_z w64 c.args.second c.ranges.second in
    (rw second at c.year_offset.ensures) ∙ sym (offset_by_rule_entries _ y c.args.second _ _ _ lawful near starts (sym c.in-Rule.is ∙ is))

pub returns-in-Past : goal.returns-in-Past
returns-in-Past c y lawful near starts is = sym (offset_past_entries _ y c.args.second _ lawful near (sym c.in-Past.is ∙ is))
