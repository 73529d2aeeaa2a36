use Rattle.std.proofs.Common.{w64}
use Rattle.std.proofs.lemmas.Int.{to_z-of_z}
use Rattle.zoned.specs.CivilAnswers.{IsCivil, civil_map}
use Rattle.zoneinfo64.specs.OffsetView.{seconds_told}
use Rattle.zoneinfo64.specs.ZoneOffsets.{zone_off, IsSound}
use Rattle.zoneinfo64.proofs.ZoneCivil.{counted_in, mapped_in}
use Rattle.zoneinfo64.proofs.chrono.at_wall.Goals as goal
use Rattle.zoneinfo64.proofs.chrono.at_wall.Goals.{After-named}

counts : (c : After-named) → IsSound c.args.zone.now → IsCivil (zone_off c.args.zone.now) c.args.wall (civil_map seconds_told c.named.result)
counts c =
    let wall = to_z-of_z w64 c.args.wall c.ranges.wall in
    counted_in c.laws_below.ensures _ _ _ _ c.args.zone.now.in_place c.named.ensures.offsets (rw wall at c.offsets_of_wall-answer.ensures.answers)

pub returns-clause-counts : goal.returns-clause-counts
returns-clause-counts c = counts c

pub returns-clause-local : goal.returns-clause-local
returns-clause-local c = λ sound. mapped_in c.laws_below.ensures _ _ _ c.args.zone.now.in_place sound (counts c sound)
