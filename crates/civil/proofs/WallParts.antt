-- A wall second is its day and its second of that day.
use Rattle.std.proofs.Common.{◌≡◌, ℕ, ◌<◌, ℤ, pos, ◌+ℤ◌, ◌*ℤ◌, arith}
use Rattle.civil.specs.Clock.{wall_day, wall_clock}
use Rattle.jiff_core.proofs.SignedLemmas.{signed_arith, int_rem_euclid-parts}

pub wall_parts : (w : ℤ) → (pos 86400 *ℤ wall_day w +ℤ pos (wall_clock w) ≡ w) × (wall_clock w < 86400)
unfolding wall_day wall_clock
wall_parts w = (omega (arith, signed_arith, int_rem_euclid-parts), omega (arith, signed_arith, int_rem_euclid-parts))

-- and no other day and second of a day
pub wall_once : (w day : ℤ) (second : ℕ) → pos 86400 *ℤ day +ℤ pos second ≡ w → second < 86400 → (wall_day w ≡ day) × (wall_clock w ≡ second)
wall_once w day second e h =
    let parts = wall_parts w in
    (omega (arith, signed_arith, parts.0, parts.1), omega (arith, signed_arith, parts.0, parts.1))
