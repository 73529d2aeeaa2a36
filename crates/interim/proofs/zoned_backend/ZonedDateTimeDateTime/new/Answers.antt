use Rattle.std.proofs.Common.{ℕ, ℤ, Some, ap, subst, ◌∙◌}
use Rattle.zoned.specs.Moment.{second_of}
use Rattle.zoned.specs.Placing.{IsPlaced}
use Rattle.interim.proofs.Stretches.{found_moment, no_moment}
use Rattle.interim.proofs.zoned_backend.ZonedDateTimeDateTime.new.Goals as goal

pub returns-in-Some-clause-moment : goal.returns-in-Some-clause-moment
returns-in-Some-clause-moment g c =
    let moment = c.in-Some.moment in
    let P : ℤ → Type 0 = λ (w : ℤ). g.Tz.TimeZone.sound c.args.tz → IsPlaced (g.Tz.TimeZone.off c.args.tz) w (second_of c.in-Some.moment) in
    let nanos = c.in-Some.ensures.fraction ∙ c.and_time.ensures.nanos in (
      second_of moment,
      subst P c.and_time.ensures.wall c.in-Some.ensures.placed,
      ap (λ (f : ℕ). Some (second_of moment, f)) nanos ∙ found_moment (second_of moment) _ moment.datetime.in_calendar,
    )

pub returns-in-None-clause-moment : goal.returns-in-None-clause-moment
returns-in-None-clause-moment g c =
    let outside = c.in-None.ensures.outside in
    let P : ℤ → Type 0 = λ (w : ℤ). g.Tz.TimeZone.sound c.args.tz → IsPlaced (g.Tz.TimeZone.off c.args.tz) w outside.0 in
    (outside.0, subst P c.and_time.ensures.wall outside.1, no_moment outside.0 _ outside.2)
