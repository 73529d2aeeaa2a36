use Rattle.std.proofs.Common.{w64}
use Rattle.std.proofs.lemmas.Int.{to_z-of_z}
use Rattle.zoneinfo64.proofs.zone.Zone.next_transition.Goals as goal

pub returns : goal.returns
returns c =
    let second = to_z-of_z w64 c.args.seconds_since_epoch c.ranges.seconds_since_epoch in
    rw c.data_of-data.ensures (rw second at c.next_transition.ensures)
