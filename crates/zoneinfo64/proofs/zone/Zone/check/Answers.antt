use Rattle.zoneinfo64.proofs.zone.Zone.check.Goals as goal

pub returns-clause-lawful : goal.returns-clause-lawful
returns-clause-lawful g c = rw c.data_of.ensures c.check.ensures.lawful

pub returns-clause-err : goal.returns-clause-err
returns-clause-err g c = rw c.data_of.ensures c.check.ensures.err

pub returns-clause-ticks : goal.returns-clause-ticks
returns-clause-ticks g c = rw c.data_of.ensures c.check.ensures.ticks
