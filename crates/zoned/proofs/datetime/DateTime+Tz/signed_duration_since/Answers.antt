use Rattle.std.proofs.Common.{◌≡◌, pos, ◌+ℤ◌, ◌-ℤ◌, ◌∙◌, rules, to_z, of_z, to_z-of_z, w64, FitsSigned, arith}
use Rattle.civil.specs.Delta.{second_nanos}
use Rattle.jiff_core.proofs.SignedLemmas.{signed_casts, one_part, unsigned_abs-parts}
use Rattle.zoned.specs.Moment.{nanos_since_epoch}
use Rattle.zoned.proofs.datetime.DateTime+Tz.signed_duration_since.Goals as goal
use Rattle.zoned.proofs.datetime.DateTime+Tz.signed_duration_since.Goals.{After-new, After-unwrap}

-- what is carried over is the difference
carried : (g : _) (c : After-new g) → second_nanos (to_z w64 (of_z w64 c.carried-second.result.0)) +ℤ pos c.carried-second.result.1 ≡ nanos_since_epoch c.args.self -ℤ nanos_since_epoch c.args.rhs
carried g c =
    let fits : FitsSigned w64 c.carried-second.result.0 = search rules in
    let same : to_z w64 (of_z w64 c.carried-second.result.0) ≡ c.carried-second.result.0 = to_z-of_z fits in
    omega (arith, signed_casts, same, c.carried-second.ensures.whole, c.timestamp.ensures.value, c.timestamp.ensures.bound.first, c.timestamp.ensures.bound.last, c.timestamp-2.ensures.value, c.timestamp-2.ensures.bound.first, c.timestamp-2.ensures.bound.last)

-- what is carried over is the difference
made : (g : _) (c : After-unwrap g) → second_nanos (to_z w64 (of_z w64 c.carried-second.result.0)) +ℤ pos c.carried-second.result.1 ≡ nanos_since_epoch c.args.self -ℤ nanos_since_epoch c.args.rhs
made g c =
    let fits : FitsSigned w64 c.carried-second.result.0 = search rules in
    let same : to_z w64 (of_z w64 c.carried-second.result.0) ≡ c.carried-second.result.0 = to_z-of_z fits in
    omega (arith, signed_casts, same, c.carried-second.ensures.whole, c.timestamp.ensures.value, c.timestamp.ensures.bound.first, c.timestamp.ensures.bound.last, c.timestamp-2.ensures.value, c.timestamp-2.ensures.bound.first, c.timestamp-2.ensures.bound.last)

pub unwrap-requires : goal.unwrap-requires
unwrap-requires g c =
    let sum = carried g c in
    let size = unsigned_abs-parts (second_nanos (to_z w64 (of_z w64 c.carried-second.result.0)) +ℤ pos c.carried-second.result.1) in
    let part = one_part (second_nanos (to_z w64 (of_z w64 c.carried-second.result.0)) +ℤ pos c.carried-second.result.1) in
    c.new.ensures.some.1 (
      c.carried-second.ensures.fraction,
      record { within = omega (arith, signed_casts, sum, size, part, c.timestamp.ensures.value, c.timestamp.ensures.bound.first, c.timestamp.ensures.bound.last, c.timestamp-2.ensures.value, c.timestamp-2.ensures.bound.first, c.timestamp-2.ensures.bound.last, c.timestamp_subsec_nanos.ensures.value, c.timestamp_subsec_nanos.ensures.bound, c.timestamp_subsec_nanos-2.ensures.value, c.timestamp_subsec_nanos-2.ensures.bound) },
    )

pub returns : goal.returns
returns g c = (rw c.unwrap.ensures at c.new.ensures.value) ∙ made g c
