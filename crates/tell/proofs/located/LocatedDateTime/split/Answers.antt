use Rattle.std.proofs.Common.{◌≡◌, false, true, ◌+ℤ◌, refl, ◌∙◌, arith}
use Rattle.civil.specs.Clock.{wall_day, wall_clock}
use Rattle.jiff_core.proofs.SignedLemmas.{signed_arith, int_rem_euclid-parts}
use Rattle.interim.specs.Walls.{Wall}
use Rattle.tell.specs.Inside.LocatedView.{second_in, nanos_in}
use Rattle.tell.proofs.NearWalls.{day_within, second_outside}
use Rattle.tell.proofs.located.LocatedDateTime.split.Goals as goal

pub returns-in-Some-clause-wall : goal.returns-in-Some-clause-wall
unfolding wall_day wall_clock
returns-in-Some-clause-wall g c =
    let east = c.seconds_east.ensures in
    record {
      shown = λ sound. omega (arith, signed_arith, int_rem_euclid-parts, c.date.ensures, c.time.ensures.second, c.in-Some.ensures.wall, east.value sound, east.bound.west, east.bound.east);
      in_day = omega (arith, signed_arith, int_rem_euclid-parts, c.time.ensures.second);
      nanos_kept = c.time.ensures.nanos ∙ c.in-Some.ensures.nanos;
    }

pub returns-in-None-clause-outside : goal.returns-in-None-clause-outside
unfolding wall_day wall_clock
returns-in-None-clause-outside g c = λ _.
    let east = c.seconds_east.ensures in
    let wall = second_in c.args.self +ℤ c.seconds_east.result in
    let base : Wall = record { day = wall_day wall; time = (wall_clock wall, nanos_in c.args.self) } in (
      base,
      record { shown = λ sound. omega (arith, signed_arith, int_rem_euclid-parts, east.value sound); in_day = omega (arith, signed_arith, int_rem_euclid-parts); nanos_kept = refl },
      day_within wall ∙ second_outside wall (λ is.
          let never : false ≡ true = c.in-None.ensures.some.1 (record { first = omega (arith, signed_arith, is.first, east.bound.west, east.bound.east); last = omega (arith, signed_arith, is.last, east.bound.west, east.bound.east) }) in
          cc),
    )
