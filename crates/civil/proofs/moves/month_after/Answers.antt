use Rattle.std.proofs.Common.{◌≡◌, ℤ, pos, negsuc, ◌≤ℤ◌, ap, ◌∙◌, arith, to_z, of_z, w32, w64}
use Rattle.std.specs.Int.{int_div_euclid}
use Rattle.civil.specs.Months.{moved_year, moved_month}
use Rattle.jiff_core.proofs.SignedLemmas.{signed_casts, one_part}
use Rattle.civil.proofs.moves.month_after.Goals as goal

-- a year near the calendar comes back from its bits
back : (year : ℤ) → negsuc 400000000 ≤ℤ year → year ≤ℤ pos 400000000 → to_z w32 (of_z w32 (to_z w64 (of_z w64 year))) ≡ year
back year low high = omega (arith, signed_casts)

pub overflow_cast-result : goal.overflow_cast-result
overflow_cast-result c = omega (arith, signed_casts)

pub returns-clause-year : goal.returns-clause-year
unfolding moved_year
returns-clause-year c =
    let is : c.div_euclid.result ≡ moved_year c.args.year c.args.month c.args.months = c.div_euclid.ensures ∙ ap (λ (x : ℤ). int_div_euclid x (pos 12)) (omega (arith, signed_casts)) in
    let low : negsuc 400000000 ≤ℤ c.div_euclid.result = omega (arith, signed_casts) in
    let high : c.div_euclid.result ≤ℤ pos 400000000 = omega (arith, signed_casts) in
    back c.div_euclid.result low high ∙ is

pub returns-clause-month : goal.returns-clause-month
unfolding moved_month
returns-clause-month c = omega (arith, signed_casts, one_part c.rem_euclid.result)
