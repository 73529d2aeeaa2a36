use Rattle.std.proofs.Common.{◌≡◌, ◌<◌, ℕ, ℤ, pos, ◌+ℤ◌, refl, sym, subst, rules, to_z, of_z, to_z-of_z, w64, FitsSigned, arith}
use Rattle.std.specs.Int.{int_div_euclid}
use Rattle.civil.specs.Clock.{IsWallSecond}
use Rattle.civil.specs.Delta.{second_nanos}
use Rattle.jiff_core.proofs.SignedLemmas.{signed_arith, signed_casts}
use Rattle.zoned.specs.Moment.{nanos_since_epoch}
use Rattle.zoned.proofs.datetime.DateTime+Tz.checked_add_signed.Goals as goal
use Rattle.zoned.proofs.datetime.DateTime+Tz.checked_add_signed.Goals.{After-from_utc_datetime, In-None}

-- whole seconds and a fraction are found by division
div_is : (total q : ℤ) (r : ℕ) → second_nanos q +ℤ pos r ≡ total → r < 1000000000 → int_div_euclid total (pos 1000000000) ≡ q
div_is total q r e h = omega (arith, signed_arith)

-- what is carried over is the sum
moved : (g : _) (c : After-from_utc_datetime g) → second_nanos (to_z w64 (of_z w64 c.carried-second.result.0)) +ℤ pos c.carried-second.result.1 ≡ nanos_since_epoch c.args.self +ℤ c.args.rhs
moved g c =
    let fits : FitsSigned w64 c.carried-second.result.0 = search rules in
    let same : to_z w64 (of_z w64 c.carried-second.result.0) ≡ c.carried-second.result.0 = to_z-of_z fits in
    omega (arith, signed_casts, same, c.carried-second.ensures.whole, c.timestamp.ensures.value, c.timestamp.ensures.bound.first, c.timestamp.ensures.bound.last, c.num_seconds.ensures.value, c.num_seconds.ensures.bound, c.subsec_nanos.ensures.value, c.subsec_nanos.ensures.bound)

-- what is carried over is the sum
left : (g : _) (c : In-None g) → second_nanos (to_z w64 (of_z w64 c.carried-second.result.0)) +ℤ pos c.carried-second.result.1 ≡ nanos_since_epoch c.args.self +ℤ c.args.rhs
left g c =
    let fits : FitsSigned w64 c.carried-second.result.0 = search rules in
    let same : to_z w64 (of_z w64 c.carried-second.result.0) ≡ c.carried-second.result.0 = to_z-of_z fits in
    omega (arith, signed_casts, same, c.carried-second.ensures.whole, c.timestamp.ensures.value, c.timestamp.ensures.bound.first, c.timestamp.ensures.bound.last, c.num_seconds.ensures.value, c.num_seconds.ensures.bound, c.subsec_nanos.ensures.value, c.subsec_nanos.ensures.bound)

pub returns-in-Some-clause-some : goal.returns-in-Some-clause-some
returns-in-Some-clause-some g c =
    let there = div_is _ _ _ (moved g c) c.carried-second.ensures.fraction in
    let inside = c.in-Some.ensures.some.0 refl in
    (λ _. subst IsWallSecond (sym there) inside.0, λ _. refl)

pub returns-in-Some-clause-moved : goal.returns-in-Some-clause-moved
returns-in-Some-clause-moved g c =
    omega (arith, signed_arith, moved g c, c.from_utc_datetime.ensures.second, c.from_utc_datetime.ensures.fraction, c.in-Some.ensures.wall, c.in-Some.ensures.nanos)

pub returns-in-None-clause-some : goal.returns-in-None-clause-some
returns-in-None-clause-some g c =
    let there = div_is _ _ _ (left g c) c.carried-second.ensures.fraction in
    (λ e. absurd (let f = e in cc), λ is. c.in-None.ensures.some.1 (subst IsWallSecond there is, omega (arith, c.carried-second.ensures.fraction)))
