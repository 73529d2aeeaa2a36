use Rattle.std.proofs.Common.{◌≡◌, ◌≢◌, ◌%◌, length, append_assoc, arith}
use Rattle.resb.proofs.PackedWords.{zero_even, zero_odd}
use Rattle.resb.proofs.packing.push_text.Goals as goal

pub returns-in_ok-push : goal.returns-in_ok-push
returns-in_ok-push c =
    let even : length c.args.units.now % 2 ≡ 0 = omega arith in
    rw (zero_even c.args.units.now even, c.in_ok-push.ensures.items, c.in_ok-push_units.ensures) (simp append_assoc)

pub returns-else-units-eq0 : goal.returns-else-units-eq0
returns-else-units-eq0 c =
    let odd : length c.args.units.now % 2 ≢ 0 = omega arith in
    rw (← zero_odd c.args.units.now odd) c.in_ok-push_units.ensures
