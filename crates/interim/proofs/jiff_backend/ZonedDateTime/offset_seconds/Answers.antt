use Rattle.std.proofs.Common.{◌≡◌, ◌∙◌, ℤ, pos, ◌+ℤ◌, false, true, sym, ap, arith, unsigned_abs}
use Rattle.std.specs.Int.{int_div_euclid, int_rem_euclid}
use Rattle.jiff_core.proofs.SignedLemmas.{signed_casts}
use Rattle.jiff.specs.ZonedView.{plain_zoned, zoned_nanos}
use Rattle.jiff_core.specs.declared.timestamp.Timestamp.{Timestamp}
use Rattle.interim.specs.Jiff.{instant, second_of, fraction_of}
use Rattle.interim.proofs.JiffInstants.{found_instant, no_second, instant_parts}
use Rattle.interim.proofs.jiff_backend.ZonedDateTime.offset_seconds.Goals as goal

pub returns-in-Some-clause-moment : goal.returns-in-Some-clause-moment
unfolding second_of fraction_of
returns-in-Some-clause-moment c =
    let n = zoned_nanos c.args.self in
    let parts = instant_parts n in
    let range = (plain_zoned c.args.self).timestamp.in_range in
    let now : c.as_nanosecond-now.result ≡ n = c.as_nanosecond-now.ensures ∙ ap (λ (t : Timestamp). t.nanosecond) c.timestamp.ensures in
    let second : c.div_euclid.result ≡ second_of n = c.div_euclid.ensures ∙ ap (λ (x : ℤ). int_div_euclid x (pos 1000000000)) (omega (arith, signed_casts, now, range.0, range.1)) in
    let fraction : unsigned_abs c.rem_euclid.result ≡ fraction_of n = ap unsigned_abs c.rem_euclid.ensures.value ∙ ap (λ (x : ℤ). unsigned_abs (int_rem_euclid x (pos 1000000000))) (omega (arith, signed_casts, now, range.0, range.1)) in
    let there : zoned_nanos c.to_zoned.result ≡ c.in-Some.instant.nanosecond = ap (λ (t : Timestamp). t.nanosecond) c.to_zoned.ensures.instant in
    let later : c.in-Some.instant.nanosecond ≡ instant (second_of n +ℤ c.args.secs) (fraction_of n) = omega (arith, signed_casts, c.in-Some.ensures.value, second, fraction, parts.0, parts.1, range.0, range.1, c.ranges.secs) in
    sym (found_instant (zoned_nanos c.to_zoned.result) (second_of n +ℤ c.args.secs) (fraction_of n) (there ∙ later) parts.1 (plain_zoned c.to_zoned.result).timestamp.in_range)

pub returns-in-None-clause-moment : goal.returns-in-None-clause-moment
unfolding second_of
returns-in-None-clause-moment c =
    let n = zoned_nanos c.args.self in
    let parts = instant_parts n in
    let range = (plain_zoned c.args.self).timestamp.in_range in
    let now : c.as_nanosecond-now.result ≡ n = c.as_nanosecond-now.ensures ∙ ap (λ (t : Timestamp). t.nanosecond) c.timestamp.ensures in
    let second : c.div_euclid.result ≡ second_of n = c.div_euclid.ensures ∙ ap (λ (x : ℤ). int_div_euclid x (pos 1000000000)) (omega (arith, signed_casts, now, range.0, range.1)) in
    sym (no_second (second_of n +ℤ c.args.secs) (fraction_of n) (λ inside.
    let found : false ≡ true = c.in-None.ensures.there.1 (omega (arith, signed_casts, inside.0, inside.1, second, parts.0, parts.1, range.0, range.1, c.ranges.secs)) in
    cc))
