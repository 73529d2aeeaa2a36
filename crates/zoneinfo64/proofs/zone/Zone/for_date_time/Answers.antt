use Rattle.std.proofs.Common.{w32}
use Rattle.std.proofs.lemmas.Int.{to_z-of_z}
use Rattle.zoneinfo64.proofs.zone.Zone.for_date_time.Goals as goal

pub returns-clause-answers : goal.returns-clause-answers
returns-clause-answers c =
    let year = to_z-of_z w32 c.args.year c.ranges.year in
    rw c.data_of-data.ensures (rw year at c.for_date_time.ensures.answers)

pub returns-clause-placed : goal.returns-clause-placed
returns-clause-placed c =
    let year = to_z-of_z w32 c.args.year c.ranges.year in
    rw c.data_of-data.ensures (rw year at c.for_date_time.ensures.placed)
