use Rattle.std.proofs.Common.{w64, refl}
use Rattle.std.proofs.lemmas.Int.{to_z-of_z}
use Rattle.timeline.proofs.LookupsByWall.{answers_around}
use Rattle.timeline.proofs.lookups.table_answer_from.Goals as goal

pub returns : goal.returns
returns g c lawful before =
    let wall = to_z-of_z w64 c.args.wall c.ranges.wall in
    let place = rw wall at (c.table_place-place.ensures.place lawful.order) in
    let answer = rw wall at c.answer_around.ensures in
    rw answer (answers_around _ c.args.wall _ _ _ lawful before place refl refl)
