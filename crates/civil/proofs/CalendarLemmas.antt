-- The counts of years and months in closed form.
use Rattle.std.proofs.Common.{◌≡◌, ℕ, zero, suc, ◌+◌, ◌-◌, ◌*◌, ◌/◌, ◌<◌, ◌≤◌, Bool, true, false, cond, nat_lt, [], ◌∷◌, get_or, map, refl, sym, ap, ◌∙◌, arith, ℤ, pos, negsuc, ◌+ℤ◌, ◌-ℤ◌, ◌*ℤ◌, ◌≤ℤ◌, neg_ℤ, unsigned_abs}
use Rattle.std.proofs.lemmas.Bool.Decides.{nat_tests}
use Rattle.std.proofs.lemmas.Int.{by_lt_z}
use Rattle.std.proofs.lemmas.List.FromFn.{get_or-map-range_with_len}
use Rattle.std.specs.List.{range_with_len}
use Rattle.civil.specs.Calendar.{is_leap_year, days_in_year, days_in_month, days_from_zero, days_to_zero, year_start, days_of_months, day_of}
use Rattle.civil.specs.CivilDates.{HoldsDay, IsDate, IsDay}
use Rattle.civil.specs.DateLaws.{YearsHaveTheirDays}
use Rattle.civil.specs.Inside.LeapDays.{leap_days_to}
use Rattle.civil.specs.Laws.{CountsYears}
use Rattle.jiff_core.proofs.SignedLemmas.{signed_arith, one_part}

-- 1 for a leap year, and else 0
abbrev pub leap_day : ℤ → ℕ
leap_day y = cond (is_leap_year y) 1 0

-- a year has its leap day, and 365 days
leap_day_counts : (y : ℤ) → days_in_year y ≡ leap_day y + 365
leap_day_counts y = grind arith

-- the closed form of the years from 0 on grows by each year's leap day
from_zero_step : (n : ℕ) → (suc n + 3) / 4 + (suc n + 399) / 400 + (n + 99) / 100 ≡ (n + 3) / 4 + (n + 399) / 400 + (suc n + 99) / 100 + leap_day (pos n)
from_zero_step n = grind (arith, nat_tests)

-- and that of the years before 0
to_zero_step : (n : ℕ) → suc n / 4 + suc n / 400 + n / 100 ≡ n / 4 + n / 400 + suc n / 100 + leap_day (negsuc n)
to_zero_step n = grind (arith, nat_tests)

-- the days of the n years from 0 on; `a - b ≡ c` is written as `a ≡ c + b`
pub days_from_zero-closed : (n : ℕ) → days_from_zero n + (n + 99) / 100 ≡ 365 * n + (n + 3) / 4 + (n + 399) / 400
unfolding days_from_zero
days_from_zero-closed zero = refl
days_from_zero-closed (suc n) = omega (arith, days_from_zero-closed n, from_zero_step n, leap_day_counts (pos n))

-- the days of the n years before 0
pub days_to_zero-closed : (n : ℕ) → days_to_zero n + n / 100 ≡ 365 * n + n / 4 + n / 400
unfolding days_to_zero
days_to_zero-closed zero = refl
days_to_zero-closed (suc n) = omega (arith, days_to_zero-closed n, to_zero_step n, leap_day_counts (negsuc n))

-- the days from 0 to 1970
epoch_days : days_from_zero 1970 ≡ 719528
epoch_days = omega (arith, days_from_zero-closed 1970)

-- the days before the nth month by the table that the code reads, with the leap day past February
abbrev pub month_start : ℤ → ℕ → ℕ
month_start y n = get_or (0 ∷ 31 ∷ 59 ∷ 90 ∷ 120 ∷ 151 ∷ 181 ∷ 212 ∷ 243 ∷ 273 ∷ 304 ∷ 334 ∷ []) n 0 + cond (nat_lt 1 n) (leap_day y) 0

-- all twelve at once
month_starts : (y : ℤ) (b : Bool) → is_leap_year y ≡ b → map (days_of_months y) (range_with_len 0 12) ≡ map (month_start y) (range_with_len 0 12)
unfolding days_of_months
month_starts y true leap = rw leap refl
month_starts y false leap = rw leap refl

pub month_start-is : (y : ℤ) (n : ℕ) → n < 12 → days_of_months y n ≡ month_start y n
month_start-is y n h =
    sym (get_or-map-range_with_len (days_of_months y) 0 12 n n 0 h (omega arith)) ∙ ap (λ l. get_or l n 0) (month_starts y (is_leap_year y) refl)
    ∙ get_or-map-range_with_len (month_start y) 0 12 n n 0 h (omega arith)

-- the first day of a year from 0 on
year_start-from : (n : ℕ) → year_start (pos n) ≡ pos (days_from_zero n) -ℤ pos 719528
unfolding year_start
year_start-from n = rw epoch_days refl

-- the first day of a year before 0
year_start-to : (n : ℕ) → year_start (negsuc n) ≡ neg_ℤ (pos (days_to_zero (suc n) + 719528))
unfolding year_start
year_start-to n = rw epoch_days refl

-- no year has more days
pub days_in_year_bound : (y : ℤ) → days_in_year y ≤ 366
days_in_year_bound y = grind arith

-- the first day of the year after x
year_start-after : (x : ℤ) → year_start (x +ℤ pos 1) ≡ pos 365 *ℤ x +ℤ leap_days_to x -ℤ pos 719162
unfolding leap_days_to
year_start-after (pos n) = omega (arith, signed_arith, year_start-from (n + 1), days_from_zero-closed (n + 1))
year_start-after (negsuc zero) = omega (arith, signed_arith, year_start-from 0, days_from_zero-closed 0)
year_start-after (negsuc (suc n)) =
    let back : negsuc (suc n) +ℤ pos 1 ≡ negsuc n = omega (arith, signed_arith) in
    rw back (omega (arith, signed_arith, year_start-to n, days_to_zero-closed (suc n)))

-- the closed form, with x the year before
pub year_start-closed : (y x : ℤ) → x +ℤ pos 1 ≡ y → year_start y ≡ pos 365 *ℤ x +ℤ leap_days_to x -ℤ pos 719162
year_start-closed y x e = rw e at (year_start-after x)

-- leap_days_to lies near 97 of 400 years
pub leap_days_bound : (y : ℤ) → ((pos 97 *ℤ y) ≤ℤ (pos 400 *ℤ leap_days_to y +ℤ pos 1000)) × ((pos 400 *ℤ leap_days_to y) ≤ℤ (pos 97 *ℤ y +ℤ pos 1000))
unfolding leap_days_to
leap_days_bound y = omega (arith, signed_arith)

-- a year begins where the one before it ends
pub year_start-next : (y : ℤ) → year_start (y +ℤ pos 1) ≡ year_start y +ℤ pos (days_in_year y)
unfolding days_from_zero days_to_zero
year_start-next (pos n) =
    let next : n + 1 ≡ suc n = omega arith in
    rw next (omega (arith, signed_arith, year_start-from (suc n), year_start-from n))
year_start-next (negsuc zero) = omega (arith, signed_arith, year_start-from 0, year_start-to 0)
year_start-next (negsuc (suc n)) =
    let back : negsuc (suc n) +ℤ pos 1 ≡ negsuc n = omega (arith, signed_arith) in
    rw back (omega (arith, signed_arith, year_start-to n, year_start-to (suc n)))

-- both equations of the law
pub counts_years : CountsYears
counts_years = record {
  epoch = omega (arith, signed_arith, year_start-from 1970, epoch_days);
  next = year_start-next;
}

-- the twelve months are the year
pub year_of_months : (y : ℤ) → days_of_months y 12 ≡ days_in_year y
unfolding days_of_months
year_of_months y = grind arith

-- k months more have up to 31 days each
pub months_more : (y : ℤ) (n k m : ℕ) → n + k ≡ m → (days_of_months y n ≤ days_of_months y m) × (days_of_months y m ≤ days_of_months y n + 31 * k)
unfolding days_of_months
months_more y n zero m e = let same : n ≡ m = omega arith in rw same (omega arith, omega arith)
months_more y n (suc k) zero e = absurd (omega arith)
months_more y n (suc k) (suc m) e =
    let rest = months_more y n k m (omega arith) in
    let most : days_in_month y (suc m) ≤ 31 = grind arith in
    (omega (arith, rest), omega (arith, rest, most))

-- a month lies inside its year
pub months_within : (y : ℤ) (n : ℕ) → n < 12 → days_of_months y n + days_in_month y (suc n) ≤ days_in_year y
unfolding days_of_months
months_within y n h = omega (arith, months_more y (suc n) (11 - n) 12 (omega arith), year_of_months y)

-- a day of a month lies inside its year, whether the calendar has the year or not
pub day_in_year : (y : ℤ) (m d : ℕ) → 1 ≤ m → m ≤ 12 → d ≤ days_in_month y m → days_of_months y (m - 1) + d ≤ days_in_year y
day_in_year y zero d first last within = absurd (omega arith)
day_in_year y (suc n) d first last within =
    let index : suc n - 1 ≡ n = omega arith in
    rw index (omega (arith, months_within y n (omega arith)))

-- so does a date
pub day_within : (y : ℤ) (m d : ℕ) → IsDate y m d → days_of_months y (m - 1) + d ≤ days_in_year y
day_within y m d is = day_in_year y m d is.first_month is.last_month is.last_day

-- `day_of` as an equation, for `omega`
pub day_of-is : (y : ℤ) (m d : ℕ) → day_of y m d ≡ year_start y +ℤ pos (days_of_months y (m - 1) + (d - 1))
unfolding day_of
day_of-is y m d = refl

-- the first year of the calendar, and the year after its last
pub first_start : year_start (negsuc 262142) ≡ negsuc 96465291
unfolding leap_days_to
first_start = year_start-after (negsuc 262143)

pub last_start : year_start (pos 262143) ≡ pos 95026237
unfolding leap_days_to
last_start = year_start-after (pos 262142)

-- the first year of 32 bits, and the year after the last one
pub first_start_i32 : year_start (negsuc 2147483647) ≡ negsuc 784353015832
unfolding leap_days_to
first_start_i32 = year_start-after (negsuc 2147483648)

pub last_start_i32 : year_start (pos 2147483648) ≡ pos 784351576777
unfolding leap_days_to
last_start_i32 = year_start-after (pos 2147483647)

-- a year that is k years later starts 365 or 366 days later for each of them
start_later : (y : ℤ) (k : ℕ) → ((year_start y +ℤ pos (365 * k)) ≤ℤ year_start (y +ℤ pos k)) × (year_start (y +ℤ pos k) ≤ℤ (year_start y +ℤ pos (366 * k)))
start_later y zero = let same : y +ℤ pos 0 ≡ y = omega (arith, signed_arith) in rw same (omega (arith, signed_arith), omega (arith, signed_arith))
start_later y (suc k) =
    let next : y +ℤ pos (suc k) ≡ (y +ℤ pos k) +ℤ pos 1 = omega (arith, signed_arith) in
    let low = (start_later y k).0 in
    let high = (start_later y k).1 in
    let few : (365 ≤ days_in_year (y +ℤ pos k)) × (days_in_year (y +ℤ pos k) ≤ 366) = (grind arith, grind arith) in
    rw next (omega (arith, signed_arith, low, year_start-next (y +ℤ pos k), few), omega (arith, signed_arith, high, year_start-next (y +ℤ pos k), few))

-- the same for any two years
pub later_starts : (y z : ℤ) → y ≤ℤ z → ((pos 365 *ℤ (z -ℤ y)) ≤ℤ (year_start z -ℤ year_start y)) × ((year_start z -ℤ year_start y) ≤ℤ (pos 366 *ℤ (z -ℤ y)))
later_starts y z h =
    let there : y +ℤ pos (unsigned_abs (z -ℤ y)) ≡ z = omega (arith, signed_arith, one_part (z -ℤ y)) in
    let steps = rw there at (start_later y (unsigned_abs (z -ℤ y))) in
    (omega (arith, signed_arith, one_part (z -ℤ y), steps.0), omega (arith, signed_arith, one_part (z -ℤ y), steps.1))

pub starts_in_order : (y z : ℤ) → y ≤ℤ z → year_start y ≤ℤ year_start z
starts_in_order y z h = omega (arith, signed_arith, later_starts y z h)

pub years_have_their_days : YearsHaveTheirDays
years_have_their_days = record { least = λ y z h. (later_starts y z h).0; most = λ y z h. (later_starts y z h).1 }

-- each date has a day number of the calendar
pub in_calendar : (y : ℤ) (m d : ℕ) → IsDate y m d → IsDay (day_of y m d)
in_calendar y m d is = record {
  first = omega (arith, signed_arith, day_of-is y m d, starts_in_order (negsuc 262142) y is.first_year, first_start);
  last = omega (arith, signed_arith, day_of-is y m d, day_within y m d is, year_start-next y, starts_in_order (y +ℤ pos 1) (pos 262143) (omega (arith, signed_arith)), last_start);
}

-- the number that the code adds up is the day number, and fits
pub record CodeDay (y : ℤ) (m d : ℕ) (start : ℤ) (months : ℕ) : Type 0 where
  pub whole : start +ℤ pos (months + (d - 1)) ≡ day_of y m d
  pub inside : IsDay (start +ℤ pos (months + (d - 1)))
  pub small : months + (d - 1) < 366

pub code_day : (y : ℤ) (m d : ℕ) (start : ℤ) (months : ℕ) → IsDate y m d → start ≡ year_start y → months ≡ days_of_months y (m - 1) → CodeDay y m d start months
code_day y m d start months is e f =
    let whole : start +ℤ pos (months + (d - 1)) ≡ day_of y m d = rw (e, f) (sym (day_of-is y m d)) in
    record {
      whole = whole;
      inside = rw whole (in_calendar y m d is);
      small = omega (arith, day_within y m d is, days_in_year_bound y);
    }

-- the year of a day between the first and the last that 32 bits tell is one of 32 bits
pub year_of_32_bits : (y day : ℤ) → HoldsDay y day → negsuc 784353015832 ≤ℤ day → day ≤ℤ pos 784351576776 → (negsuc 2147483647 ≤ℤ y) × (y ≤ℤ pos 2147483647)
year_of_32_bits y day is low high = (
  by_lt_z y (negsuc 2147483647)
      (λ before. absurd (omega (arith, signed_arith, is.not_over, first_start_i32, starts_in_order (y +ℤ pos 1) (negsuc 2147483647) (omega (arith, signed_arith)))))
      (λ from. from),
  by_lt_z (pos 2147483647) y
      (λ after. absurd (omega (arith, signed_arith, is.begun, last_start_i32, starts_in_order (pos 2147483648) y (omega (arith, signed_arith)))))
      (λ to. to),
)

-- fewer days than a year has stand before a month
pub months_few : (y : ℤ) (n : ℕ) → n < 12 → days_of_months y n < 366
months_few y n h =
    let some : 1 ≤ days_in_month y (suc n) = grind arith in
    omega (arith, months_within y n h, days_in_year_bound y, some)

-- n months have at most 32 days each
months_before : (y : ℤ) (n : ℕ) → days_of_months y n ≤ 32 * n
unfolding days_of_months
months_before y n = omega (arith, months_more y 0 n n (omega arith))

-- and one month more has no fewer days than 32 for each, since those that are left of the year have few
months_from : (y : ℤ) (n : ℕ) → suc n < 12 → 32 * n + 32 ≤ days_of_months y (suc (suc n))
months_from y n h = omega (arith, months_more y (suc (suc n)) (10 - n) 12 (omega arith), year_of_months y, leap_day_counts y)

-- the month of a day of the year is the one after as many months as it has 32 days, or the next one
pub record NearMonth (y : ℤ) (r : ℕ) : Type 0 where
  pub small : r / 32 < 12
  pub begun : days_of_months y (r / 32 + 1 - 1) ≤ r
  pub not_over : r / 32 + 1 < 12 → r < days_of_months y (r / 32 + 1 + 1)
  pub last : (r / 32 + 1 < 12 → ⊥) → r < days_of_months y (r / 32 + 1)

pub near_month : (y : ℤ) (r : ℕ) → r < days_in_year y → NearMonth y r
near_month y r h =
    let n = r / 32 in
    let small : n < 12 = omega (arith, days_in_year_bound y) in
    let same : n + 1 - 1 ≡ n = omega arith in
    let next : n + 1 + 1 ≡ suc (suc n) = omega arith in
    record {
      small = small;
      begun = omega (arith, ap (days_of_months y) same, months_before y n);
      not_over = λ more. omega (arith, ap (days_of_months y) next, months_from y n (omega arith));
      last = λ no. let all : n + 1 ≡ 12 = omega (arith, no) in omega (arith, ap (days_of_months y) all, year_of_months y);
    }
