use Rattle.std.proofs.Common.{to_z-of_z}
use Rattle.zoneinfo64.specs.ZoneView.{plain_zone}
use Rattle.tell.proofs.SaidMoments.{zone_said}
use Rattle.tell.proofs.moment.moment_of.Goals as goal

pub returns-clause-said : goal.returns-clause-said
returns-clause-said c =
    zone_said (plain_zone c.args.zone) c.args.dialect c.args.base _ c.args.phrase.now c.resolved.result (to_z-of_z c.ranges.base) c.resolved.ensures.said c.resolved.ensures.offset
