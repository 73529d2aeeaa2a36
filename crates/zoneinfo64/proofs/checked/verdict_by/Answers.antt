use Rattle.std.proofs.Common.{refl}
use Rattle.zoneinfo64.proofs.checked.verdict_by.Goals as goal

pub returns-in-Ok : goal.returns-in-Ok
returns-in-Ok g c = c.check.ensures.lawful.0 (rw c.in-Ok.is refl)
