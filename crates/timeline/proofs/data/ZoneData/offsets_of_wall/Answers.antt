use Rattle.std.proofs.Common.{w64}
use Rattle.std.proofs.lemmas.Int.{to_z-of_z}
use Rattle.timeline.proofs.Placing.{answers-place}
use Rattle.timeline.proofs.data.ZoneData.offsets_of_wall.Goals as goal

pub returns-clause-placed : goal.returns-clause-placed
returns-clause-placed c =
    let wall = to_z-of_z w64 c.args.wall c.ranges.wall in
    let answers = rw wall at c.offsets_of_wall.ensures in
    λ lawful. answers-place _ _ _ lawful (answers lawful)
