use Rattle.std.proofs.Common.{w64}
use Rattle.std.proofs.lemmas.Int.{to_z-of_z}
use Rattle.zoneinfo64.proofs.zone.Zone.offsets_of_wall.Goals as goal

pub returns-clause-answers : goal.returns-clause-answers
returns-clause-answers c =
    let wall = to_z-of_z w64 c.args.wall c.ranges.wall in
    rw c.data_of.ensures (rw wall at c.offsets_of_wall.ensures.answers)

pub returns-clause-placed : goal.returns-clause-placed
returns-clause-placed c =
    let wall = to_z-of_z w64 c.args.wall c.ranges.wall in
    rw c.data_of.ensures (rw wall at c.offsets_of_wall.ensures.placed)
