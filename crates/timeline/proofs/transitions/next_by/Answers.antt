use Rattle.std.proofs.Common.{w32, w64, rules, FitsSigned, arith}
use Rattle.std.proofs.lemmas.Int.{ints, to_z-of_z}
use Rattle.timeline.proofs.YearEntries.{before_rule, before_start}
use Rattle.timeline.proofs.NextAnswers.{next_after}
use Rattle.timeline.proofs.transitions.next_by.Goals as goal

pub returns-in-Table : goal.returns-in-Table
returns-in-Table g c lawful =
    let fits : FitsSigned w32 c.nearest_year-year.result = search rules in
    let year = to_z-of_z w32 c.nearest_year-year.result fits in
    let second = to_z-of_z w64 c.args.second c.ranges.second in
    let near = rw second at c.nearest_year-year.ensures in
    let told = rw year at c.in-Table.ensures.value in
    (rw second at c.next_in_table.ensures) lawful (before_start c.args.zone.now.rule c.nearest_year-year.result c.args.second near c.entries_of.ensures.starts (before_rule c.args.zone.now.rule c.nearest_year-year.result told))

pub returns : goal.returns
returns g c lawful =
    let fits : FitsSigned w32 c.nearest_year-year.result = search rules in
    let year = to_z-of_z w32 c.nearest_year-year.result fits in
    let second = to_z-of_z w64 c.args.second c.ranges.second in
    let near = rw second at c.nearest_year-year.ensures in
    let told = rw year at c.in-Past.ensures.value in
    next_after c.args.zone.now c.nearest_year-year.result c.args.second c.in-Past.field-0 c.args.change lawful (omega (arith, ints)) near told
