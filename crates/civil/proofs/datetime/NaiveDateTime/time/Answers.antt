use Rattle.std.proofs.Common.{◌≡◌, ℤ, pos, ap, arith, to_z, of_z, w64}
use Rattle.std.specs.Int.{int_rem_euclid}
use Rattle.civil.specs.Clock.{wall_clock}
use Rattle.jiff_core.proofs.SignedLemmas.{signed_casts, one_part, bits_of_nonnegative}
use Rattle.civil.proofs.datetime.NaiveDateTime.time.Goals as goal

pub returns-clause-second : goal.returns-clause-second
unfolding wall_clock
returns-clause-second c =
    let wall = c.args.self.now.in_calendar in
    let same : to_z w64 (of_z w64 c.args.self.now.second) ≡ c.args.self.now.second = omega (arith, signed_casts, wall.first, wall.last) in
    let rem = c.rem_euclid.ensures in
    omega (arith, signed_casts, bits_of_nonnegative, one_part c.rem_euclid.result, rem.value, rem.lower_bound, rem.upper_bound, c.at.ensures.second, ap (λ (x : ℤ). int_rem_euclid x (pos 86400)) same)
