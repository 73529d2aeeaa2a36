use Rattle.std.proofs.Common.{to_z-of_z, FitsSigned, w64, rules, arith}
use mir.Syntax.{w128}
use Rattle.jiff_core.proofs.SignedLemmas.{signed_casts}
use Rattle.timeline.proofs.check.are_near.Goals as goal

pub returns : goal.returns
returns c =
    let first_fits : FitsSigned w64 c.args.first.since = search rules in
    let second_fits : FitsSigned w64 c.args.second.since = search rules in
    let latest_fits : FitsSigned w128 c.args.first.latest = search rules in
    let earliest_fits : FitsSigned w128 c.args.second.earliest = search rules in
    let first = to_z-of_z first_fits in
    let second = to_z-of_z second_fits in
    let late = to_z-of_z latest_fits in
    let early = to_z-of_z earliest_fits in (
      λ t. let near = c.are_between.ensures.0 t in
          record { to_second = omega (arith, signed_casts, second, late, near.0); from_second = omega (arith, signed_casts, first, early, near.1) },
      λ h. c.are_between.ensures.1 (omega (arith, signed_casts, second, late, h.to_second), omega (arith, signed_casts, first, early, h.from_second)),
    )
