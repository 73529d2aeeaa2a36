use Rattle.std.proofs.Common.{◌+ℤ◌, refl, ◌∙◌, arith}
use Rattle.civil.specs.Clock.{wall_day, wall_clock}
use Rattle.jiff_core.proofs.SignedLemmas.{signed_arith, int_rem_euclid-parts}
use Rattle.interim.specs.Walls.{Wall}
use Rattle.tell.specs.Inside.LocatedView.{second_in, nanos_in, zone_in}
use Rattle.tell.proofs.NearWalls.{near_wall, day_within, second_inside}
use Rattle.tell.proofs.located.LocatedDateTime.zone_if_inside.Goals as goal

pub returns-then-self-clause-some : goal.returns-then-self-clause-some
unfolding wall_day wall_clock
returns-then-self-clause-some g c = λ _.
    let d = c.args.self.now in
    let near = near_wall (second_in d +ℤ g.Tz.TimeZone.off (zone_in d) (second_in d)) in
    let wall : Wall = record { day = wall_day near.0; time = (wall_clock near.0, nanos_in d) } in (
      wall,
      record {
        shown = λ sound. let same = near.2 (d.shown c.if-self.true sound) in omega (arith, signed_arith, int_rem_euclid-parts, same);
        in_day = omega (arith, signed_arith, int_rem_euclid-parts);
        nanos_kept = refl;
      },
      day_within near.0 ∙ second_inside near.0 near.1,
    )
