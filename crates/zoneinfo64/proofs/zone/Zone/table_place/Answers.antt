use Rattle.std.proofs.Common.{w64}
use Rattle.std.proofs.lemmas.Int.{to_z-of_z}
use Rattle.zoneinfo64.proofs.zone.Zone.table_place.Goals as goal

pub returns-clause-place : goal.returns-clause-place
returns-clause-place g c =
    let second = to_z-of_z w64 c.args.second c.ranges.second in
    rw c.data_of.ensures (rw second at c.table_place.ensures.place)

pub returns-clause-ticks : goal.returns-clause-ticks
returns-clause-ticks g c = rw c.data_of.ensures c.table_place.ensures.ticks
