use Rattle.std.proofs.Common.{◌≡◌, ◌∙◌, true, false, Some, ℤ, ◌+ℤ◌, refl, sym, ap, arith}
use Rattle.jiff_core.proofs.SignedLemmas.{signed_casts}
use Rattle.jiff_core.specs.Date.{epoch_day}
use Rattle.interim.specs.Jiff.{jiff_days}
use Rattle.interim.proofs.Stretches.{is_within-of, is_within-not}
use Rattle.interim.proofs.jiff_backend.CivilDateDate.offset_days.Goals as goal

pub returns-then-not-is_day : goal.returns-then-not-is_day
returns-then-not-is_day c =
    let bound = c.to_unix_epoch_day.ensures.bound in
    let same = ap epoch_day c.to_plain-date.ensures in
    rw (is_within-not jiff_days (epoch_day c.args.self +ℤ c.args.days) (λ low high.
    let inside : false ≡ true = sym c.if-not-is_day.true ∙ c.is_day.ensures.1 (omega (arith, signed_casts, low, high, bound.0, bound.1, same, c.ranges.days)) in
    cc)) refl

pub unreachable-requires : goal.unreachable-requires
unreachable-requires c =
    let bound = c.to_unix_epoch_day.ensures.bound in
    let inside = c.is_day.ensures.0 c.if-not-is_day.false in
    let found : false ≡ true = c.in-Err.ensures.succeeds.1 (omega (arith, signed_casts, inside.0, inside.1, bound.0, bound.1, c.ranges.days)) in
    cc

pub returns : goal.returns
returns c =
    let bound = c.to_unix_epoch_day.ensures.bound in
    let inside = c.is_day.ensures.0 c.if-not-is_day.false in
    let same = ap epoch_day c.to_plain-date.ensures in
    let moved = ap epoch_day c.from_plain.ensures in
    rw (is_within-of jiff_days (epoch_day c.args.self +ℤ c.args.days) (omega (arith, signed_casts, inside.0, bound.0, bound.1, same, c.ranges.days)) (omega (arith, signed_casts, inside.1, bound.0, bound.1, same, c.ranges.days))) (ap (λ (n : ℤ). Some n) (omega (arith, signed_casts, c.in-Ok.ensures.value, same, moved, c.ranges.days)))
