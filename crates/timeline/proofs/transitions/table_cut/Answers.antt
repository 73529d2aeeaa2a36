use Rattle.std.proofs.Common.{w64}
use Rattle.std.proofs.lemmas.Int.{to_z-of_z}
use Rattle.timeline.proofs.NextAnswers.{cut_by_place}
use Rattle.timeline.proofs.transitions.table_cut.Goals as goal

pub returns-then-exact-clause-value : goal.returns-then-exact-clause-value
returns-then-exact-clause-value g c order =
    let second = to_z-of_z w64 c.args.second c.ranges.second in
    let place = rw second at (c.table_place-place.ensures.place order) in
    rw c.if-exact.true ((rw second at c.exact_place.ensures.value) order (rw place (cut_by_place c.args.zone.now c.args.second order)))

pub returns-clause-value : goal.returns-clause-value
returns-clause-value g c order =
    let second = to_z-of_z w64 c.args.second c.ranges.second in
    let place = rw second at (c.table_place-place.ensures.place order) in
    rw (c.if-exact.false, place) (cut_by_place c.args.zone.now c.args.second order)
