use Rattle.std.proofs.Common.{w64, rules, FitsSigned}
use Rattle.std.proofs.lemmas.Int.{to_z-of_z}
use Rattle.zoneinfo64.proofs.chrono.ZoneCivil.civil.Goals as goal

pub returns-clause-counts : goal.returns-clause-counts
returns-clause-counts c =
    let fits : FitsSigned w64 c.wall_second.result = search rules in
    let number = to_z-of_z w64 c.wall_second.result fits in
    rw (number, c.wall_second.ensures.value) at c.at_wall.ensures.counts
