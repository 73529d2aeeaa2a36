use Rattle.std.proofs.Common.{w32, w64, rules, FitsSigned, refl, arith}
use Rattle.std.proofs.lemmas.Int.{ints, to_z-of_z}
use Rattle.timeline.proofs.YearEntries.{before_rule, before_start}
use Rattle.timeline.proofs.Nexts.{answers_prev}
use Rattle.timeline.proofs.NextAnswers.{cut_by_table, prev_after}
use Rattle.timeline.proofs.transitions.prev_by.Goals as goal

pub returns-in-Table : goal.returns-in-Table
returns-in-Table g c lawful =
    let fits : FitsSigned w32 c.nearest_year-year.result = search rules in
    let year = to_z-of_z w32 c.nearest_year-year.result fits in
    let second = to_z-of_z w64 c.args.second c.ranges.second in
    let near = rw second at c.nearest_year-year.ensures in
    let told = rw year at c.in-Table.ensures.value in
    let cut = (rw second at c.table_cut-place.ensures.value) lawful.order in
    let before = before_start c.args.zone.now.rule c.nearest_year-year.result c.args.second near c.entries_of.ensures.starts (before_rule c.args.zone.now.rule c.nearest_year-year.result told) in
    answers_prev c.args.zone.now c.args.second c.args.exact c.args.change c.table_cut-place.result c.last_in_table.result lawful
    (cut_by_table c.args.zone.now c.args.exact c.args.second c.table_cut-place.result lawful before cut c.table_cut-place.ensures.bound) c.last_in_table.ensures

pub returns : goal.returns
returns g c lawful =
    let fits : FitsSigned w32 c.nearest_year-year.result = search rules in
    let year = to_z-of_z w32 c.nearest_year-year.result fits in
    let second = to_z-of_z w64 c.args.second c.ranges.second in
    let near = rw second at c.nearest_year-year.ensures in
    let told = rw year at c.in-Past.ensures.value in
    prev_after c.args.zone.now c.nearest_year-year.result _ c.args.second c.in-Past.field-0 c.args.exact c.args.change c.before_year.result lawful (omega (arith, ints)) refl near told c.before_year.ensures
