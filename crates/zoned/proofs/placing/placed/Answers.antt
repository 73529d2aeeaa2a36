use Rattle.std.proofs.Common.{◌≡◌, false, true, ◌-ℤ◌, ap, refl, arith}
use Rattle.std.proofs.lemmas.Int.{ints}
use Rattle.jiff_core.proofs.SignedLemmas.{signed_arith}
use Rattle.civil.specs.Times.{wall_of}
use Rattle.zoned.specs.CivilAnswers.{first_offset}
use Rattle.zoned.proofs.PlacedSeconds.{placed-civil}
use Rattle.zoned.proofs.placing.placed.Goals as goal

pub returns-in-Some-clause-placed : goal.returns-in-Some-clause-placed
returns-in-Some-clause-placed g c = λ sound.
    let picked = ap g.Tz.Offset.Offset.seconds c.first-before.ensures in
    placed-civil _ (g.Tz.TimeZone.off c.args.zone.now) _ _ c.civil-answer.result (c.civil-answer.ensures.counts sound)
    (omega (arith, ints, picked, c.fix.ensures, c.in-Some.ensures.wall))

pub returns-in-None-clause-outside : goal.returns-in-None-clause-outside
returns-in-None-clause-outside g c =
    let picked = ap g.Tz.Offset.Offset.seconds c.first-before.ensures in
    let at = c.local_minus_utc.ensures in (
      wall_of c.args.wall.now -ℤ g.Tz.Offset.Offset.seconds (first_offset c.civil-answer.result),
      (λ sound. placed-civil _ (g.Tz.TimeZone.off c.args.zone.now) _ _ c.civil-answer.result (c.civil-answer.ensures.counts sound) refl),
      (λ is.
          let no : false ≡ true = c.in-None.ensures.some.1 (record { first = omega (arith, signed_arith, picked, c.fix.ensures, at.value, at.bound.west, at.bound.east, is.first); last = omega (arith, signed_arith, picked, c.fix.ensures, at.value, at.bound.west, at.bound.east, is.last) }) in
          cc),
    )

pub returns-in-Some-clause-offset : goal.returns-in-Some-clause-offset
returns-in-Some-clause-offset g c = λ sound.
    let picked = ap g.Tz.Offset.Offset.seconds c.first-before.ensures in
    c.moment_by.ensures.offset (wall_of c.args.wall.now) sound (c.civil-answer.ensures.counts sound)
    (omega (arith, ints, picked, c.fix.ensures, c.in-Some.ensures.wall))
