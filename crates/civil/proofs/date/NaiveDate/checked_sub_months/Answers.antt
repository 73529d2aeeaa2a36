use Rattle.std.proofs.Common.{◌≡◌, ◌↔◌, ℤ, pos, neg_ℤ, ◌-ℤ◌, IsSome, subst, arith, to_z, of_z, w64}
use Rattle.civil.specs.CivilDates.{IsDay}
use Rattle.civil.specs.Months.{months_on}
use Rattle.jiff_core.proofs.SignedLemmas.{signed_casts}
use Rattle.civil.proofs.date.NaiveDate.checked_sub_months.Goals as goal

pub returns-clause-some : goal.returns-clause-some
returns-clause-some c y m d is =
    let same : to_z w64 (of_z w64 (pos 0 -ℤ to_z w64 c.args.months)) ≡ neg_ℤ (pos c.args.months) = omega (arith, signed_casts) in
    let P : ℤ → Type 0 = λ months. IsSome c.moved_by_months.result ↔ IsDay (months_on y m d months) in
    subst P same (c.moved_by_months.ensures.some y m d is)
