-- A date moved by months is a date of the calendar exactly where its day is one.
use Rattle.std.proofs.Common.{◌≡◌, ℕ, ◌-◌, ◌<◌, ◌≤◌, ◌↔◌, inl, inr, min, refl, sym, ap, subst, ◌∙◌, arith, ℤ, pos, ◌+ℤ◌}
use Rattle.std.proofs.lemmas.Bool.{cases_lt}
use Rattle.std.proofs.lemmas.Int.{by_lt_z}
use Rattle.std.proofs.lemmas.Grind.{common_steps}
use Rattle.civil.specs.Calendar.{days_in_month, days_of_months, day_of}
use Rattle.civil.specs.CivilDates.{HoldsDay, IsDate, IsDay, IsDateOf}
use Rattle.civil.specs.DateLaws.{IsMonthDay, MonthDaysAreDays}
use Rattle.civil.specs.Months.{months_on, moved_year, moved_month}
use Rattle.jiff_core.proofs.SignedLemmas.{signed_arith}
use Rattle.civil.proofs.CalendarLemmas.{day_of-is, day_in_year, starts_in_order, year_start-next, in_calendar}
use Rattle.civil.proofs.DateOfDay.{year_in_calendar}
use Rattle.civil.proofs.DateOrder.{date_once, month_before}

-- a day of a month of any year, on a day of the calendar
pub date_inside : (y : ℤ) (m d : ℕ) → 1 ≤ m → m ≤ 12 → 1 ≤ d → d ≤ days_in_month y m → IsDay (day_of y m d) → IsDate y m d
date_inside y m d from to begun over is =
    let holds : HoldsDay y (day_of y m d) = record {
      begun = omega (arith, signed_arith, day_of-is y m d);
      not_over = omega (arith, signed_arith, day_of-is y m d, day_in_year y m d from to over, year_start-next y);
    } in
    let year = year_in_calendar y (day_of y m d) holds is in
    record { first_year = year.first; last_year = year.last; first_month = from; last_month = to; first_day = begun; last_day = over }

-- what the code computes of a date that is moved by n months
pub record CodeMove (y : ℤ) (m d : ℕ) (day : ℤ) : Type 0 where
  pub exists : IsDate y m d ↔ IsDay day
  pub is : day_of y m d ≡ day

moved_day : (y z y' : ℤ) (d k e m : ℕ) → z ≡ y' → k ≡ m → e ≡ min d (days_in_month z k) → day_of z k e ≡ day_of y' m (min d (days_in_month y' m))
moved_day y z y' d k e m year month cut =
    ap (λ (x : ℕ). day_of z k x) cut ∙ (ap (λ (x : ℕ). day_of z x (min d (days_in_month z x))) month ∙ ap (λ (x : ℤ). day_of x m (min d (days_in_month x m))) year)

code_move : (day y z : ℤ) (m d k e : ℕ) (n : ℤ) → IsDateOf day y m d → z ≡ moved_year y m n → k ≡ moved_month y m n → 1 ≤ k → k ≤ 12
    → e ≡ min d (days_in_month z k) → 1 ≤ days_in_month z k → CodeMove z k e (months_on y m d n)
unfolding months_on
code_move day y z m d k e n is year month from to cut some =
    let same : day_of z k e ≡ months_on y m d n = moved_day y z (moved_year y m n) d k e (moved_month y m n) year month cut in
    let first = is.exists.first_day in
    let over : e ≤ days_in_month z k = omega arith in
    let begun : 1 ≤ e = omega arith in
    record {
      exists = (λ date. subst IsDay same (in_calendar z k e date), λ inside. date_inside z k e from to begun over (subst IsDay (sym same) inside));
      is = same;
    }

-- and of any reading of the date
pub code_moves : (day y z : ℤ) (m d k e : ℕ) (n : ℤ) → IsDateOf day y m d → z ≡ moved_year y m n → k ≡ moved_month y m n → 1 ≤ k → k ≤ 12
    → e ≡ min d (days_in_month z k) → 1 ≤ days_in_month z k → (y' : ℤ) (m' d' : ℕ) → IsDateOf day y' m' d' → CodeMove z k e (months_on y' m' d' n)
code_moves day y z m d k e n is year month from to cut some y' m' d' is' =
    let same = date_once day y m d y' m' d' is is' in
    let move = code_move day y z m d k e n is year month from to cut some in
    let P : ℤ → Type 0 = λ x. CodeMove z k e (months_on x m d n) in
    let Q : ℕ → Type 0 = λ x. CodeMove z k e (months_on y' x d n) in
    let R : ℕ → Type 0 = λ x. CodeMove z k e (months_on y' m' x n) in
    subst R same.2 (subst Q same.1 (subst P same.0 move))

-- every month has a day
pub month_has_days : (y : ℤ) (m : ℕ) → 1 ≤ days_in_month y m
month_has_days y m = grind (arith, common_steps)

-- ---- a day has one date, in any year

in_year : (y : ℤ) (m d : ℕ) → IsMonthDay y m d → HoldsDay y (day_of y m d)
in_year y m d is = record {
  begun = omega (arith, signed_arith, day_of-is y m d);
  not_over = omega (arith, signed_arith, day_of-is y m d, is.first, day_in_year y m d is.from is.to is.last, year_start-next y);
}

-- one year holds a day
pub year_once : (day y z : ℤ) → HoldsDay y day → HoldsDay z day → y ≡ z
year_once day y z a b =
    by_lt_z y z (λ lt. absurd (omega (arith, signed_arith, a.not_over, b.begun, starts_in_order (y +ℤ pos 1) z (omega (arith, signed_arith, lt)))))
    (λ from. by_lt_z z y (λ lt. absurd (omega (arith, signed_arith, b.not_over, a.begun, starts_in_order (z +ℤ pos 1) y (omega (arith, signed_arith, lt))))) (λ to. omega (arith, signed_arith, from, to)))

-- an earlier month of a year has smaller days
month_lower : (y : ℤ) (m d n e : ℕ) → IsMonthDay y m d → IsMonthDay y n e → day_of y m d ≡ day_of y n e → m < n → ⊥
month_lower y m d n e a b same lt = omega (arith, signed_arith, day_of-is y m d, day_of-is y n e, same, month_before y m n a.from lt, a.last, a.first, b.first)

same_month : (y : ℤ) (m d n e : ℕ) → IsMonthDay y m d → IsMonthDay y n e → day_of y m d ≡ day_of y n e → m ≡ n
same_month y m d n e a b same =
    elim (cases_lt m n) [
      | inl lt ↦ absurd (month_lower y m d n e a b same lt)
      | inr from ↦ elim (cases_lt n m) [ inl lt ↦ absurd (month_lower y n e m d b a (sym same) lt) | inr to ↦ omega (arith, from, to) ]
    ]

pub same_date : (day y : ℤ) (m d : ℕ) (z : ℤ) (n e : ℕ) → IsMonthDay y m d → day_of y m d ≡ day → IsMonthDay z n e → day_of z n e ≡ day → (y ≡ z) × (m ≡ n) × (d ≡ e)
same_date day y m d z n e a p b q =
    let years : y ≡ z = year_once day y z (subst (λ (x : ℤ). HoldsDay y x) p (in_year y m d a)) (subst (λ (x : ℤ). HoldsDay z x) q (in_year z n e b)) in
    let b' : IsMonthDay y n e = subst (λ (x : ℤ). IsMonthDay x n e) (sym years) b in
    let q' : day_of y n e ≡ day = ap (λ (x : ℤ). day_of x n e) years ∙ q in
    let months : m ≡ n = same_month y m d n e a b' (p ∙ sym q') in
    let days : d ≡ e = omega (arith, signed_arith, day_of-is y m d, day_of-is y n e, p, q', a.first, b'.first, ap (λ (x : ℕ). days_of_months y (x - 1)) months) in
    (years, months, days)

pub month_days : MonthDaysAreDays
month_days = record {
  in_year = in_year;
  once = λ y m d z n e a b same. same_date (day_of z n e) y m d z n e a same b refl;
  inside = λ y m d is inside. date_inside y m d is.from is.to is.first is.last inside;
}
