use Rattle.std.proofs.Common.{◌≡◌, ◌+◌, ℤ, pos, negsuc, ◌≤ℤ◌, unsigned_abs, ap, ◌∙◌, arith, to_z, of_z, to_z-of_z, w32, w64, FitsSigned}
use Rattle.std.specs.Int.{int_div_euclid, int_rem_euclid}
use Rattle.civil.specs.Months.{month_number, moved_year, moved_month}
use Rattle.jiff_core.proofs.SignedLemmas.{signed_arith, signed_casts, int_rem_euclid-parts}
use Rattle.interim.proofs.jiff_backend.month_after.Goals as goal

-- a year near the calendar comes back from its bits
back : (year : ℤ) → negsuc 400000000 ≤ℤ year → year ≤ℤ pos 400000000 → to_z w32 (of_z w32 (to_z w64 (of_z w64 year))) ≡ year
back year low high = omega (arith, signed_casts)

-- and fits in 32 bits
narrow : (year : ℤ) → negsuc 400000000 ≤ℤ year → year ≤ℤ pos 400000000 → FitsSigned w32 (to_z w64 (of_z w64 year))
narrow year low high = omega (arith, signed_casts)

-- and a month does too
month_back : (r n : ℤ) → r ≡ int_rem_euclid n (pos 12) → unsigned_abs (to_z w64 (of_z w64 r)) + 1 ≡ unsigned_abs (int_rem_euclid n (pos 12)) + 1
month_back r n e =
    let fits : FitsSigned w64 r = omega (arith, signed_arith, e, int_rem_euclid-parts n 12) in
    ap (λ (x : ℤ). unsigned_abs x + 1) (to_z-of_z fits ∙ e)

pub overflow_cast-result : goal.overflow_cast-result
overflow_cast-result c = narrow c.div_euclid.result (omega (arith, signed_casts)) (omega (arith, signed_casts))

pub returns-clause-year : goal.returns-clause-year
unfolding moved_year
returns-clause-year c =
    let is : c.div_euclid.result ≡ moved_year c.args.year c.args.month c.args.months = c.div_euclid.ensures ∙ ap (λ (x : ℤ). int_div_euclid x (pos 12)) (omega (arith, signed_casts)) in
    let low : negsuc 400000000 ≤ℤ c.div_euclid.result = omega (arith, signed_casts) in
    let high : c.div_euclid.result ≤ℤ pos 400000000 = omega (arith, signed_casts) in
    back c.div_euclid.result low high ∙ is

pub returns-clause-month : goal.returns-clause-month
unfolding moved_month
returns-clause-month c =
    let is : c.rem_euclid.result ≡ int_rem_euclid (month_number c.args.year c.args.month c.args.months) (pos 12) = c.rem_euclid.ensures.value ∙ ap (λ (x : ℤ). int_rem_euclid x (pos 12)) (omega (arith, signed_casts)) in
    month_back c.rem_euclid.result (month_number c.args.year c.args.month c.args.months) is

pub returns-clause-bound : goal.returns-clause-bound
returns-clause-bound c =
    let low : negsuc 400000000 ≤ℤ c.div_euclid.result = omega (arith, signed_casts) in
    let high : c.div_euclid.result ≤ℤ pos 400000000 = omega (arith, signed_casts) in
    let same = back c.div_euclid.result low high in
    (omega (arith, signed_arith, same, low), omega (arith, signed_arith, same, high))
