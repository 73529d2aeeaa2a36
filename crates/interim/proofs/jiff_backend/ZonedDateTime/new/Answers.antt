use Rattle.std.proofs.Common.{◌≡◌, ◌∙◌, false, true, pos, ◌+ℤ◌, ◌-ℤ◌, ◌*ℤ◌, refl}
use Rattle.jiff.specs.ZoneView.{plain_zone}
use Rattle.jiff.specs.ZonedView.{plain_zoned, zoned_nanos}
use Rattle.jiff_core.specs.Date.{epoch_day}
use Rattle.jiff_core.specs.Time.{time_seconds}
use Rattle.jiff_tz.specs.Ambiguous.{compatible_offset, instant_of}
use Rattle.jiff_tz.specs.Zone.{ambiguous_at}
use Rattle.interim.proofs.JiffInstants.{found_instant, no_instant, instant_of-is, wall_time}
use Rattle.interim.proofs.jiff_backend.ZonedDateTime.new.Goals as goal

pub returns-in-Ok-clause-moment : goal.returns-in-Ok-clause-moment
returns-in-Ok-clause-moment c =
    let wall = c.to_datetime.result in
    let time = c.args.time in
    let offset = compatible_offset (ambiguous_at (plain_zone c.args.tz) wall) in
    let w = pos 86400 *ℤ epoch_day c.args.date +ℤ pos (time_seconds time) in
    let shown = wall_time wall c.args.date time c.to_datetime.ensures.date c.to_datetime.ensures.time in
    let is = c.in-Ok.ensures.value ∙ instant_of-is wall offset w time.subsec_nanosecond shown in
    (w -ℤ offset.seconds, (wall, shown, refl), found_instant (zoned_nanos c.in-Ok.moment) (w -ℤ offset.seconds) time.subsec_nanosecond is time.subsec_in (plain_zoned c.in-Ok.moment).timestamp.in_range)

pub returns-in-Err-clause-moment : goal.returns-in-Err-clause-moment
returns-in-Err-clause-moment c =
    let wall = c.to_datetime.result in
    let time = c.args.time in
    let offset = compatible_offset (ambiguous_at (plain_zone c.args.tz) wall) in
    let w = pos 86400 *ℤ epoch_day c.args.date +ℤ pos (time_seconds time) in
    let shown = wall_time wall c.args.date time c.to_datetime.ensures.date c.to_datetime.ensures.time in
    let is = instant_of-is wall offset w time.subsec_nanosecond shown in (
      w -ℤ offset.seconds,
      (wall, shown, refl),
      no_instant (instant_of wall offset) (w -ℤ offset.seconds) time.subsec_nanosecond is time.subsec_in (λ inside. let no : false ≡ true = c.in-Err.ensures.succeeds.1 inside in cc),
    )
