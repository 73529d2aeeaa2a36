use Rattle.std.proofs.Common.{◌≡◌, ℤ, pos, ◌+ℤ◌, ◌*ℤ◌, ap, arith, to_z, of_z, to_z-of_z, w32, w64}
use Rattle.jiff_core.proofs.SignedLemmas.{signed_arith}
use Rattle.interim.specs.Refusal.{within}
use Rattle.interim.proofs.Answered.{gives_at}
use Rattle.interim.proofs.resolve.weeks_on.Goals as goal

pub returns : goal.returns
returns g c =
    let weeks : to_z w32 (of_z w32 c.args.weeks) ≡ c.args.weeks = to_z-of_z c.ranges.weeks in
    let same : to_z w64 (of_z w64 (pos 7 *ℤ to_z w64 (of_z w64 (to_z w32 (of_z w32 c.args.weeks))))) ≡ pos 7 *ℤ c.args.weeks = omega (arith, signed_arith, weeks) in
    gives_at _ _ _ _ _ (ap (λ (n : ℤ). within g.D.Date.calendar (g.D.Date.number c.args.date +ℤ n)) same) c.offset_days.ensures
