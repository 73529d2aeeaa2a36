use Rattle.std.proofs.Common.{◌-◌, arith}
use Rattle.timeline.proofs.CheckLaws.{walls_before-is}
use Rattle.timeline.proofs.check.walls_before.Goals as goal

pub returns-else-n-eq0 : goal.returns-else-n-eq0
returns-else-n-eq0 c =
    walls_before-is c.args.zone.now.initial c.args.zone.now.table c.args.n (c.args.n - 1) c.walls_at.result (omega (arith, c.if-n-eq0.false)) (omega (arith, c.requires.within, c.if-n-eq0.false)) c.walls_at.ensures
