use Rattle.std.proofs.Common.{w64, ap, ◌∙◌}
use Rattle.std.proofs.lemmas.Int.{to_z-of_z}
use Rattle.zoneinfo64.proofs.ZoneCivil.{cut_seconds, told_in}
use Rattle.zoneinfo64.proofs.chrono.at_second.Goals as goal

pub returns-clause-value : goal.returns-clause-value
returns-clause-value c = λ sound.
    let second = to_z-of_z w64 c.args.second c.ranges.second in
    ap cut_seconds c.told.ensures.offset ∙ told_in c.laws_below.ensures _ _ _ c.args.zone.now.in_place (rw second at c.for_timestamp-offset.ensures) sound
