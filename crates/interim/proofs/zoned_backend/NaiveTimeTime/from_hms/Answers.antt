use Rattle.std.proofs.Common.{◌≡◌, false, true, refl}
use Rattle.interim.proofs.Stretches.{found_time, no_time}
use Rattle.interim.proofs.zoned_backend.NaiveTimeTime.from_hms.Goals as goal

pub returns-in-Some : goal.returns-in-Some
returns-in-Some c = found_time c.args.h c.args.m c.args.s _ _ (c.in-Some.ensures.some.0 refl) c.in-Some.ensures.second c.in-Some.ensures.nanos

pub returns-in-None : goal.returns-in-None
returns-in-None c = no_time c.args.h c.args.m c.args.s (λ is. let no : false ≡ true = c.in-None.ensures.some.1 is in cc)
