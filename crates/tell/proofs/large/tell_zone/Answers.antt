use Rattle.std.proofs.Common.{◌≡◌, refl, rules, w32}
use Rattle.std.specs.Int.{cast_unsigned}
use Rattle.tell.specs.LoadZones.{load_offset}
use Rattle.tell.proofs.large.tell_zone.Goals as goal

pub returns : goal.returns
returns c = λ keys row h.
    let e : c.cast_unsigned.result ≡ cast_unsigned w32 (load_offset c.args.number) = search rules in
    rw (← e) (c.in_ok-table.ensures keys row _ refl (c.in_ok-integers.ensures keys row h))
