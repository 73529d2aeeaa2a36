use Rattle.zoned.proofs.offset.TimeZone.from_local_datetime.Goals as goal

pub returns-clause-zone : goal.returns-clause-zone
returns-clause-zone g c = c.moments.ensures.zone c.args.self.now c.offset_from_local_datetime.ensures.zone
