use Rattle.std.proofs.Common.{◌≡◌, false, true, ℤ, ◌+ℤ◌, refl, sym, ap, subst, ◌∙◌, arith}
use Rattle.civil.specs.Clock.{wall_day, wall_clock}
use Rattle.civil.specs.Times.{wall_of}
use Rattle.jiff_core.proofs.SignedLemmas.{signed_arith, int_rem_euclid-parts}
use Rattle.zoned.specs.Moment.{second_of, fraction_of, offset_of}
use Rattle.interim.specs.Walls.{Wall}
use Rattle.interim.proofs.Stretches.{no_wall_day}
use Rattle.interim.proofs.zoned_backend.ZonedDateTimeDateTime.split.Goals as goal
use Rattle.interim.proofs.zoned_backend.ZonedDateTimeDateTime.split.Goals.{After-time, In-None}

-- the offset that is taken is the zone's at the moment
shown : (g : _) (c : After-time g) → g.Tz.TimeZone.sound (g.Tz.TimeZone.zone_of (offset_of c.args.self)) → g.Tz.Offset.Offset.seconds c.offset_from_utc_datetime-offset.result ≡ g.Tz.TimeZone.off (g.Tz.TimeZone.zone_of (offset_of c.args.self)) (second_of c.args.self)
shown g c sound =
    let zone = c.timezone-zone.ensures in
    c.offset_from_utc_datetime-offset.ensures.value (subst g.Tz.TimeZone.sound (sym zone) sound)
    ∙ (ap (λ (z : g.row.Tz.Denot). g.Tz.TimeZone.off z (wall_of c.naive_utc-utc.result)) zone ∙ ap (λ (s : ℤ). g.Tz.TimeZone.off (g.Tz.TimeZone.zone_of (offset_of c.args.self)) s) c.naive_utc-utc.ensures.wall)

hidden : (g : _) (c : In-None g) → g.Tz.TimeZone.sound (g.Tz.TimeZone.zone_of (offset_of c.args.self)) → g.Tz.Offset.Offset.seconds c.offset_from_utc_datetime-offset.result ≡ g.Tz.TimeZone.off (g.Tz.TimeZone.zone_of (offset_of c.args.self)) (second_of c.args.self)
hidden g c sound =
    let zone = c.timezone-zone.ensures in
    c.offset_from_utc_datetime-offset.ensures.value (subst g.Tz.TimeZone.sound (sym zone) sound)
    ∙ (ap (λ (z : g.row.Tz.Denot). g.Tz.TimeZone.off z (wall_of c.naive_utc-utc.result)) zone ∙ ap (λ (s : ℤ). g.Tz.TimeZone.off (g.Tz.TimeZone.zone_of (offset_of c.args.self)) s) c.naive_utc-utc.ensures.wall)

pub returns-in-Some-clause-wall : goal.returns-in-Some-clause-wall
unfolding wall_day wall_clock
returns-in-Some-clause-wall g c =
    let offset = c.local_minus_utc.ensures in
    record {
      shown = λ sound. omega (arith, signed_arith, int_rem_euclid-parts, c.date.ensures, c.time.ensures.second, c.in-Some.ensures.wall, c.naive_utc-utc.ensures.wall, shown g c sound, c.fix.ensures, offset.value, offset.bound.west, offset.bound.east);
      in_day = omega (arith, signed_arith, int_rem_euclid-parts, c.time.ensures.second);
      nanos_kept = c.time.ensures.nanos ∙ (c.in-Some.ensures.nanos ∙ c.naive_utc-utc.ensures.nanos);
    }

pub returns-in-None-clause-outside : goal.returns-in-None-clause-outside
unfolding wall_day wall_clock
returns-in-None-clause-outside g c = λ _.
    let wall = second_of c.args.self +ℤ g.Tz.Offset.Offset.seconds c.offset_from_utc_datetime-offset.result in
    let offset = c.local_minus_utc.ensures in
    let base : Wall = record { day = wall_day wall; time = (wall_clock wall, fraction_of c.args.self) } in (
      base,
      record { shown = λ sound. omega (arith, signed_arith, int_rem_euclid-parts, hidden g c sound); in_day = omega (arith, signed_arith, int_rem_euclid-parts); nanos_kept = refl },
      no_wall_day wall (λ is.
          let never : false ≡ true = c.in-None.ensures.some.1 (record { first = omega (arith, signed_arith, is.first, c.naive_utc-utc.ensures.wall, c.fix.ensures, offset.value, offset.bound.west, offset.bound.east); last = omega (arith, signed_arith, is.last, c.naive_utc-utc.ensures.wall, c.fix.ensures, offset.value, offset.bound.west, offset.bound.east) }) in
          cc),
    )
