use Rattle.std.proofs.Common.{arith}
use Rattle.timeline.proofs.CheckWhole.{lawful_told, fault_told}
use Rattle.timeline.proofs.data.ZoneData.check.Goals as goal

pub returns-clause-lawful : goal.returns-clause-lawful
returns-clause-lawful g c = lawful_told c.args.self.now c.least_fault.result c.least_fault.ensures.value

pub returns-clause-err : goal.returns-clause-err
returns-clause-err g c = fault_told c.args.self.now c.least_fault.result c.least_fault.ensures.value

pub returns-clause-ticks : goal.returns-clause-ticks
returns-clause-ticks g c = omega (arith, c.least_fault.ensures.ticks)
