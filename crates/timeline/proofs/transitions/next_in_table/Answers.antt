use Rattle.std.proofs.Common.{Some, false, w64}
use Rattle.std.proofs.lemmas.Int.{to_z-of_z}
use Rattle.timeline.proofs.Nexts.{answers_next}
use Rattle.timeline.proofs.NextAnswers.{cut_by_place, cut_by_table, first_in_both, first_past_table}
use Rattle.timeline.proofs.transitions.next_in_table.Goals as goal

pub returns-in-Some : goal.returns-in-Some
returns-in-Some g c lawful before =
    let second = to_z-of_z w64 c.args.second c.ranges.second in
    let place = rw second at (c.table_place-place.ensures.place lawful.order) in
    let cut = rw (← place) at (cut_by_place c.args.zone.now c.args.second lawful.order) in
    answers_next c.args.zone.now c.args.second c.args.change c.table_place-place.result (Some c.in-Some.entry) lawful (cut_by_table c.args.zone.now false c.args.second c.table_place-place.result lawful before cut c.table_place-place.ensures.bound)
    (first_in_both c.args.zone.now c.args.change c.table_place-place.result c.in-Some.entry c.in-Some.ensures)

pub returns-in-None : goal.returns-in-None
returns-in-None g c lawful before =
    let second = to_z-of_z w64 c.args.second c.ranges.second in
    let place = rw second at (c.table_place-place.ensures.place lawful.order) in
    let cut = rw (← place) at (cut_by_place c.args.zone.now c.args.second lawful.order) in
    answers_next c.args.zone.now c.args.second c.args.change c.table_place-place.result c.first_of_rule.result lawful (cut_by_table c.args.zone.now false c.args.second c.table_place-place.result lawful before cut c.table_place-place.ensures.bound)
    (first_past_table c.args.zone.now c.args.change c.table_place-place.result c.first_of_rule.result c.table_place-place.ensures.bound c.in-None.ensures (c.first_of_rule.ensures lawful))
