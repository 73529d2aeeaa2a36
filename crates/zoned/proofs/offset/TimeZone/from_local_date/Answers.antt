use Rattle.zoned.proofs.offset.TimeZone.from_local_date.Goals as goal

pub returns-clause-zone : goal.returns-clause-zone
returns-clause-zone g c = c.days.ensures.zone c.args.self.now c.offset_from_local_date.ensures.zone
