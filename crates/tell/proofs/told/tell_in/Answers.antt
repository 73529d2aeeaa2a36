use Rattle.std.proofs.Common.{to_z-of_z}
use Rattle.tell.proofs.told.tell_in.Goals as goal

pub returns : goal.returns
returns g c = rw (to_z-of_z c.ranges.base) at c.tell_fields.ensures
