use Rattle.std.proofs.Common.{arith}
use Rattle.timeline.proofs.CheckLaws.{table_told}
use Rattle.timeline.proofs.check.table_fault.Goals as goal

pub returns-clause-value : goal.returns-clause-value
returns-clause-value g c =
    let z = c.args.zone.now in
    table_told z.initial z.table z.early z.late _ c.args.limit _ (omega (arith, c.len-len.ensures)) c.pass_outer.ensures.passed.told
