use Rattle.std.proofs.Common.{to_z-of_z, w32, FitsSigned, rules}
use Rattle.zoned.proofs.date_ops.DateDatelike.year.Goals as goal

pub returns : goal.returns
returns g c =
    let is = c.year.ensures in
    let fits : FitsSigned w32 c.year.result = search rules in
    (is.0, is.1, rw (to_z-of_z fits, ← c.naive_utc.ensures) is.2)
