-- The text of a day is that of its date.
use Rattle.std.proofs.Common.{◌≡◌, ℕ, zero, suc, ◌+◌, ◌-◌, ◌/◌, ◌%◌, ◌∷◌, ◌<◌, ◌≤◌, ◌++◌, List, inl, inr, true, false, nat_lt, refl, sym, ap, ◌∙◌, arith, ℤ, pos, ◌+ℤ◌, ◌-ℤ◌, ◌*ℤ◌, ◌<ℤ◌, ◌≤ℤ◌, int_lt, unsigned_abs}
use Rattle.std.specs.Fmt.{decimal}
use Rattle.std.specs.Int.{int_div_euclid}
use Rattle.std.proofs.lemmas.Bool.{cases_lt}
use Rattle.std.proofs.lemmas.Int.{by_lt_z}
use Rattle.civil.specs.Calendar.{days_in_month, days_of_months, year_start}
use Rattle.civil.specs.CivilDates.{HoldsDay, IsDateOf}
use Rattle.civil.specs.Dates.{last_year, year_on, last_month, month_on, day_on, days_before, date_text, ymd_text, year_sign, two_digits, four_digits}
use Rattle.jiff_core.proofs.SignedLemmas.{signed_arith, one_part}
use Rattle.civil.proofs.CalendarLemmas.{day_of-is, day_within, starts_in_order, year_start-closed, year_start-next}
use Rattle.civil.proofs.CalendarCycle.{leap_cycle}
use Rattle.civil.proofs.DateOrder.{month_before}

-- the search finds the year
last_year-is : (n : ℕ) (z day y : ℤ) → HoldsDay y day → z ≤ℤ y → y ≤ℤ (z +ℤ pos n) → last_year n z day ≡ y
unfolding last_year
last_year-is zero z day y holds from to = omega (arith, signed_arith, from, to)
last_year-is (suc n) z day y holds from to =
    by_lt_z day (year_start (z +ℤ pos (suc n)))
    (λ below.
    let test : int_lt day (year_start (z +ℤ pos (suc n))) ≡ true = grind (arith, signed_arith, below) in
    let earlier : y <ℤ (z +ℤ pos (suc n)) =
    by_lt_z y (z +ℤ pos (suc n)) (λ h. h)
    (λ after. absurd (omega (arith, signed_arith, below, holds.begun, starts_in_order (z +ℤ pos (suc n)) y after))) in
    rw test (last_year-is n z day y holds from (omega (arith, signed_arith, earlier))))
    (λ begun.
    let test : int_lt day (year_start (z +ℤ pos (suc n))) ≡ false = grind (arith, signed_arith, begun) in
    let last : z +ℤ pos (suc n) ≡ y =
    by_lt_z y (z +ℤ pos (suc n))
    (λ before. absurd (omega (arith, signed_arith, begun, holds.not_over, starts_in_order (y +ℤ pos 1) (z +ℤ pos (suc n)) (omega (arith, signed_arith, before)))))
    (λ after. omega (arith, signed_arith, after, to)) in
    rw test last)

-- and the month
last_month-is : (n : ℕ) (y : ℤ) (r m : ℕ) → 1 ≤ m → m ≤ suc n → days_of_months y (m - 1) ≤ r → r < days_of_months y (m - 1) + days_in_month y m → last_month n y r ≡ m
unfolding last_month
last_month-is zero y r m low high begun over = omega (arith, low, high)
last_month-is (suc n) y r m low high begun over =
    elim (cases_lt m (suc (suc n))) [
      | inl before ↦
          let next : days_of_months y (m - 1) + days_in_month y m ≤ days_of_months y (suc (suc n) - 1) = month_before y m (suc (suc n)) low before in
          let same : suc (suc n) - 1 ≡ suc n = omega arith in
          let test : nat_lt r (days_of_months y (suc n)) ≡ true = grind (arith, over, next, ap (days_of_months y) same) in
          rw test (last_month-is n y r m low (omega (arith, before)) begun over)
      | inr after ↦
          let is : m ≡ suc (suc n) = omega (arith, after, high) in
          let same : m - 1 ≡ suc n = omega (arith, is) in
          let test : nat_lt r (days_of_months y (suc n)) ≡ false = grind (arith, begun, ap (days_of_months y) same) in
          rw test (sym is)
    ]

-- a year that 400 divides begins a cycle
start_400 : (q : ℤ) → year_start (pos 400 *ℤ q) ≡ pos 146097 *ℤ q -ℤ pos 719528
start_400 q =
    let before = pos 400 *ℤ (q -ℤ pos 1) +ℤ pos 399 in
    omega (arith, signed_arith, year_start-closed (pos 400 *ℤ q) before (omega (arith, signed_arith)), leap_cycle before (q -ℤ pos 1) 399 refl (omega arith))

year_on-is : (day y : ℤ) → HoldsDay y day → year_on day ≡ y
unfolding year_on
year_on-is day y holds =
    let q = int_div_euclid (day +ℤ pos 719528) (pos 146097) in
    let next : pos 400 *ℤ (q +ℤ pos 1) ≡ pos 400 *ℤ q +ℤ pos 400 = omega (arith, signed_arith) in
    last_year-is 400 (pos 400 *ℤ q) day y holds
    (by_lt_z y (pos 400 *ℤ q)
    (λ before. absurd (omega (arith, signed_arith, start_400 q, holds.not_over, starts_in_order (y +ℤ pos 1) (pos 400 *ℤ q) (omega (arith, signed_arith, before)))))
    (λ h. h))
    (by_lt_z (pos 400 *ℤ q +ℤ pos 400) y
    (λ after. absurd (omega (arith, signed_arith, start_400 (q +ℤ pos 1), ap year_start next, holds.begun, starts_in_order (pos 400 *ℤ q +ℤ pos 400) y (omega (arith, signed_arith, after)))))
    (λ h. h))

pub date_text-is : (day y : ℤ) (m d : ℕ) → IsDateOf day y m d → date_text day ≡ ymd_text y m d
unfolding date_text month_on day_on
date_text-is day y m d is =
    let date = is.exists in
    let holds : HoldsDay y day = record {
      begun = omega (arith, signed_arith, is.is, day_of-is y m d);
      not_over = omega (arith, signed_arith, is.is, day_of-is y m d, day_within y m d date, date.first_day, year_start-next y);
    } in
    let year = year_on-is day y holds in
    let before : days_before day ≡ days_of_months y (m - 1) + (d - 1) = omega (arith, signed_arith, is.is, day_of-is y m d, ap year_start year, one_part (day -ℤ year_start (year_on day))) in
    let month : month_on day ≡ m =
    ap (λ (z : ℤ). last_month 11 z (days_before day)) year ∙ (ap (λ (r : ℕ). last_month 11 y r) before
    ∙ last_month-is 11 y (days_of_months y (m - 1) + (d - 1)) m date.first_month date.last_month (omega arith) (omega (arith, date.first_day, date.last_day))) in
    let days : day_on day ≡ d =
    omega (arith, before, date.first_day, ap (λ (z : ℤ). days_of_months z (month_on day - 1)) year, ap (λ (k : ℕ). days_of_months y (k - 1)) month) in
    ap (λ (z : ℤ). ymd_text z (month_on day) (day_on day)) year ∙ (ap (λ (k : ℕ). ymd_text y k (day_on day)) month ∙ ap (λ (k : ℕ). ymd_text y m k) days)

-- what the code writes of a date
pub written : (sign : List ℕ) (n : ℕ) (y : ℤ) (m d : ℕ) → sign ≡ year_sign y → n ≡ unsigned_abs y → sign ++ four_digits n (45 ∷ two_digits m (45 ∷ (decimal (d / 10) ++ decimal (d % 10)))) ≡ ymd_text y m d
written sign n y m d e f = rw (e, f) refl
