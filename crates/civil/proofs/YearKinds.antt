-- Years of one kind have the same months and the same weekdays; and every kind occurs.
use Rattle.std.proofs.Common.{◌≡◌, ℕ, zero, suc, ◌+◌, ◌*◌, ◌<◌, Bool, true, false, cond, refl, sym, ap, subst, ◌∙◌, arith, ℤ, pos, negsuc, ◌+ℤ◌, ◌-ℤ◌, ◌*ℤ◌, ◌≤ℤ◌, ◌<ℤ◌, unsigned_abs}
use Rattle.std.specs.Int.{int_div_euclid}
use Rattle.civil.specs.Calendar.{is_leap_year, days_in_month, year_start, weekday_of, year_kind, example_year}
use Rattle.civil.specs.Inside.LeapDays.{leap_days_to}
use Rattle.jiff_core.proofs.SignedLemmas.{signed_arith}
use Rattle.civil.proofs.CalendarLemmas.{year_start-closed}
use Rattle.civil.proofs.CalendarCycle.{year_start-400, is_leap_year-400}

-- days with one weekday have one weekday as many days later
pub weekday_of-later : (a b n : ℤ) → weekday_of a ≡ weekday_of b → weekday_of (a +ℤ n) ≡ weekday_of (b +ℤ n)
weekday_of-later a b n same = omega (arith, signed_arith)

-- a weekday and whether a year is leap, told apart in their sum
kind_parts : (a b : ℕ) (p q : Bool) → a < 7 → b < 7 → a + cond p 7 0 ≡ b + cond q 7 0 → (p ≡ q) × (a ≡ b)
kind_parts a b true true h k e = (refl, omega arith)
kind_parts a b true false h k e = absurd (omega arith)
kind_parts a b false true h k e = absurd (omega arith)
kind_parts a b false false h k e = (refl, omega arith)

-- the equation of the definition
pub year_kind-is : (y : ℤ) → year_kind y ≡ unsigned_abs (weekday_of (year_start y)) + cond (is_leap_year y) 7 0
unfolding year_kind
year_kind-is y = refl

weekday_below : (y : ℤ) → unsigned_abs (weekday_of (year_start y)) < 7
weekday_below y = omega (arith, signed_arith)

-- two years of one kind are both leap or both not, and begin with one weekday
pub same_kind : (y z : ℤ) → year_kind y ≡ year_kind z → (is_leap_year y ≡ is_leap_year z) × (weekday_of (year_start y) ≡ weekday_of (year_start z))
same_kind y z same =
    let parts = kind_parts _ _ (is_leap_year y) (is_leap_year z) (weekday_below y) (weekday_below z) (sym (year_kind-is y) ∙ same ∙ year_kind-is z) in
    (parts.0, omega (arith, signed_arith, parts.1))

below_14 : (w : ℕ) (leap : Bool) → w < 7 → w + cond leap 7 0 < 14
below_14 w true h = omega arith
below_14 w false h = omega arith

pub kind_below : (y : ℤ) → year_kind y < 14
kind_below y = let P : ℕ → Type 0 = λ k. k < 14 in subst P (sym (year_kind-is y)) (below_14 _ (is_leap_year y) (weekday_below y))

-- the months of a year depend on whether it is leap
pub days_in_month-leap : (y z : ℤ) → is_leap_year y ≡ is_leap_year z → (m : ℕ) → days_in_month y m ≡ days_in_month z m
days_in_month-leap y z same m = rw same refl

pub year_kind-400 : (y : ℤ) → year_kind (y +ℤ pos 400) ≡ year_kind y
year_kind-400 y =
    let weekday : weekday_of (year_start (y +ℤ pos 400)) ≡ weekday_of (year_start y) = omega (arith, signed_arith, year_start-400 y) in
    year_kind-is (y +ℤ pos 400) ∙ ap (λ w. unsigned_abs w + cond (is_leap_year (y +ℤ pos 400)) 7 0) weekday
    ∙ ap (λ b. unsigned_abs (weekday_of (year_start y)) + cond b 7 0) (is_leap_year-400 y) ∙ sym (year_kind-is y)

-- the kind that code adds up
pub code_kind : (y weekday : ℤ) (leap : Bool) → weekday ≡ weekday_of (year_start y) → leap ≡ is_leap_year y → unsigned_abs weekday + cond leap 7 0 ≡ year_kind y
code_kind y weekday leap e f = ap (λ w. unsigned_abs w + cond leap 7 0) e ∙ ap (λ b. unsigned_abs (weekday_of (year_start y)) + cond b 7 0) f ∙ sym (year_kind-is y)

-- a whole number of times 400 years later
year_kind-cycles : (n : ℕ) (y : ℤ) → year_kind (y +ℤ pos (400 * n)) ≡ year_kind y
year_kind-cycles zero y =
    let same : y +ℤ pos (400 * 0) ≡ y = omega (arith, signed_arith) in
    ap year_kind same
year_kind-cycles (suc n) y =
    let next : y +ℤ pos (400 * suc n) ≡ (y +ℤ pos (400 * n)) +ℤ pos 400 = omega (arith, signed_arith) in
    ap year_kind next ∙ year_kind-400 (y +ℤ pos (400 * n)) ∙ year_kind-cycles n y

-- also earlier
pub year_kind-moved : (q y : ℤ) → year_kind (y +ℤ pos 400 *ℤ q) ≡ year_kind y
year_kind-moved (pos n) y =
    let same : y +ℤ pos 400 *ℤ pos n ≡ y +ℤ pos (400 * n) = omega (arith, signed_arith) in
    ap year_kind same ∙ year_kind-cycles n y
year_kind-moved (negsuc n) y =
    let back : y ≡ (y +ℤ pos 400 *ℤ negsuc n) +ℤ pos (400 * suc n) = omega (arith, signed_arith) in
    sym (ap year_kind back ∙ year_kind-cycles (suc n) (y +ℤ pos 400 *ℤ negsuc n))

-- the kind of a year by its first day
kind_by_start : (y start : ℤ) (leap : Bool) (k : ℕ) → year_start y ≡ start → is_leap_year y ≡ leap → unsigned_abs (weekday_of start) + cond leap 7 0 ≡ k → year_kind y ≡ k
kind_by_start y start leap k e f g =
    year_kind-is y ∙ ap (λ s. unsigned_abs (weekday_of s) + cond (is_leap_year y) 7 0) e ∙ ap (λ b. unsigned_abs (weekday_of start) + cond b 7 0) f ∙ g

-- a year of each kind, and its first day
pub kind_of_example : (k : ℕ) → k < 14 → year_kind (example_year k) ≡ k
unfolding leap_days_to
kind_of_example zero h = kind_by_start (pos 2001) (pos 11323) false 0 (year_start-closed (pos 2001) (pos 2000) refl) refl refl
kind_of_example (suc (zero)) h = kind_by_start (pos 2002) (pos 11688) false 1 (year_start-closed (pos 2002) (pos 2001) refl) refl refl
kind_of_example (suc (suc (zero))) h = kind_by_start (pos 2003) (pos 12053) false 2 (year_start-closed (pos 2003) (pos 2002) refl) refl refl
kind_of_example (suc (suc (suc (zero)))) h = kind_by_start (pos 2009) (pos 14245) false 3 (year_start-closed (pos 2009) (pos 2008) refl) refl refl
kind_of_example (suc (suc (suc (suc (zero))))) h = kind_by_start (pos 2010) (pos 14610) false 4 (year_start-closed (pos 2010) (pos 2009) refl) refl refl
kind_of_example (suc (suc (suc (suc (suc (zero)))))) h = kind_by_start (pos 2005) (pos 12784) false 5 (year_start-closed (pos 2005) (pos 2004) refl) refl refl
kind_of_example (suc (suc (suc (suc (suc (suc (zero))))))) h = kind_by_start (pos 2006) (pos 13149) false 6 (year_start-closed (pos 2006) (pos 2005) refl) refl refl
kind_of_example (suc (suc (suc (suc (suc (suc (suc (zero)))))))) h = kind_by_start (pos 2024) (pos 19723) true 7 (year_start-closed (pos 2024) (pos 2023) refl) refl refl
kind_of_example (suc (suc (suc (suc (suc (suc (suc (suc (zero))))))))) h = kind_by_start (pos 2008) (pos 13879) true 8 (year_start-closed (pos 2008) (pos 2007) refl) refl refl
kind_of_example (suc (suc (suc (suc (suc (suc (suc (suc (suc (zero)))))))))) h = kind_by_start (pos 2020) (pos 18262) true 9 (year_start-closed (pos 2020) (pos 2019) refl) refl refl
kind_of_example (suc (suc (suc (suc (suc (suc (suc (suc (suc (suc (zero))))))))))) h = kind_by_start (pos 2004) (pos 12418) true 10 (year_start-closed (pos 2004) (pos 2003) refl) refl refl
kind_of_example (suc (suc (suc (suc (suc (suc (suc (suc (suc (suc (suc (zero)))))))))))) h = kind_by_start (pos 2016) (pos 16801) true 11 (year_start-closed (pos 2016) (pos 2015) refl) refl refl
kind_of_example (suc (suc (suc (suc (suc (suc (suc (suc (suc (suc (suc (suc (zero))))))))))))) h = kind_by_start (pos 2000) (pos 10957) true 12 (year_start-closed (pos 2000) (pos 1999) refl) refl refl
kind_of_example (suc (suc (suc (suc (suc (suc (suc (suc (suc (suc (suc (suc (suc (zero)))))))))))))) h = kind_by_start (pos 2012) (pos 15340) true 13 (year_start-closed (pos 2012) (pos 2011) refl) refl refl
kind_of_example (suc (suc (suc (suc (suc (suc (suc (suc (suc (suc (suc (suc (suc (suc (k))))))))))))))) h = absurd (omega arith)

-- the kth kind occurs in any 400 years in a row
pub kind_occurs : (y : ℤ) (k : ℕ) → k < 14 → (z : ℤ) × (y ≤ℤ z) × (z <ℤ (y +ℤ pos 400)) × (year_kind z ≡ k)
kind_occurs y k h =
    let q = int_div_euclid (y -ℤ example_year k +ℤ pos 399) (pos 400) in (
      example_year k +ℤ pos 400 *ℤ q,
      omega (arith, signed_arith),
      omega (arith, signed_arith),
      year_kind-moved q (example_year k) ∙ kind_of_example k h,
    )
