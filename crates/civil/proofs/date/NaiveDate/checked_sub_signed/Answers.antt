use Rattle.std.proofs.Common.{◌≡◌, ◌↔◌, ℤ, pos, ◌+ℤ◌, ◌-ℤ◌, int_div, IsSome, subst, arith, to_z, of_z, w64}
use Rattle.civil.specs.CivilDates.{IsDay}
use Rattle.jiff_core.proofs.SignedLemmas.{signed_arith}
use Rattle.civil.proofs.date.NaiveDate.checked_sub_signed.Goals as goal

pub returns-clause-some : goal.returns-clause-some
returns-clause-some c =
    let same : c.args.self +ℤ to_z w64 (of_z w64 (pos 0 -ℤ to_z w64 (of_z w64 c.num_days.result))) ≡ c.args.self -ℤ int_div c.args.rhs (pos 86400000000000) = omega (arith, signed_arith, c.num_days.ensures.value, c.num_days.ensures.bound) in
    let P : ℤ → Type 0 = λ day. IsSome c.checked_add_days.result ↔ IsDay day in
    subst P same c.checked_add_days.ensures.some
