use Rattle.std.proofs.Common.{◌≡◌, ◌∙◌, pos, ◌+ℤ◌, ◌-ℤ◌, ◌*ℤ◌, false, true, ap, arith}
use Rattle.jiff_core.proofs.SignedLemmas.{signed_casts}
use Rattle.jiff.specs.ZonedView.{plain_zoned, zoned_nanos}
use Rattle.jiff_core.specs.Date.{epoch_day}
use Rattle.jiff_core.specs.Time.{time_seconds}
use Rattle.jiff_core.specs.declared.civil.datetime.DateTime.{DateTime}
use Rattle.jiff_core.specs.declared.timestamp.Timestamp.{Timestamp}
use Rattle.interim.specs.Jiff.{instant}
use Rattle.interim.proofs.JiffInstants.{found_instant, no_second, wall_time}
use Rattle.interim.proofs.jiff_backend.ZonedDateTime.at_offset.Goals as goal

pub returns-in-Some-clause-moment : goal.returns-in-Some-clause-moment
returns-in-Some-clause-moment c =
    let wall = c.to_plain-wall.result in
    let time = c.args.time in
    let w = pos 86400 *ℤ epoch_day c.args.date +ℤ pos (time_seconds time) in
    let e : wall.date ≡ c.args.date = ap (λ (x : DateTime). x.date) c.to_plain-wall.ensures ∙ c.to_datetime.ensures.date in
    let f : wall.time ≡ time = ap (λ (x : DateTime). x.time) c.to_plain-wall.ensures ∙ c.to_datetime.ensures.time in
    let shown = wall_time wall c.args.date time e f in
    let bound = c.to_second.ensures.bound in
    let there : zoned_nanos c.to_zoned.result ≡ c.in-Some.instant.nanosecond = ap (λ (t : Timestamp). t.nanosecond) c.to_zoned.ensures.instant in
    let is : c.in-Some.instant.nanosecond ≡ instant (w -ℤ c.args.secs) time.subsec_nanosecond = omega (arith, signed_casts, c.in-Some.ensures.value, c.to_second.ensures.value, bound.0, bound.1, shown.second, shown.fraction, c.ranges.secs) in
    found_instant (zoned_nanos c.to_zoned.result) (w -ℤ c.args.secs) time.subsec_nanosecond (there ∙ is) time.subsec_in (plain_zoned c.to_zoned.result).timestamp.in_range

pub returns-in-None-clause-moment : goal.returns-in-None-clause-moment
returns-in-None-clause-moment c =
    let wall = c.to_plain-wall.result in
    let time = c.args.time in
    let w = pos 86400 *ℤ epoch_day c.args.date +ℤ pos (time_seconds time) in
    let e : wall.date ≡ c.args.date = ap (λ (x : DateTime). x.date) c.to_plain-wall.ensures ∙ c.to_datetime.ensures.date in
    let f : wall.time ≡ time = ap (λ (x : DateTime). x.time) c.to_plain-wall.ensures ∙ c.to_datetime.ensures.time in
    let shown = wall_time wall c.args.date time e f in
    let bound = c.to_second.ensures.bound in
    no_second (w -ℤ c.args.secs) time.subsec_nanosecond (λ inside.
    let found : false ≡ true = c.in-None.ensures.there.1 (omega (arith, signed_casts, inside.0, inside.1, c.to_second.ensures.value, bound.0, bound.1, shown.second, c.ranges.secs)) in
    cc)
