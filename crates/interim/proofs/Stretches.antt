-- What the tests of dates, times of a day and stretches tell, and the calendar of `civil` as a stretch.
use Rattle.std.proofs.Common.{◌≡◌, inl, inr, ℕ, ◌≤◌, true, false, ◌&&◌, Some, None, ℤ, ◌≤ℤ◌, leb, ltb, refl, sym, ap, subst, ◌∙◌, arith, int_le}
use Rattle.std.proofs.lemmas.Bool.{and_parts, cases_Bool, le-leb, lt-ltb, leb-true, ltb-true}
use Rattle.civil.specs.Calendar.{days_in_month, day_of}
use Rattle.civil.specs.CivilDates.{IsDate, IsDay, IsDateOf}
use Rattle.civil.specs.DateLaws.{IsMonthDay, MonthDaysAreDays}
use Rattle.civil.specs.Clock.{IsClock, IsWallSecond, clock_second, wall_day}
use Rattle.jiff_core.proofs.SignedLemmas.{signed_arith}
use Rattle.interim.specs.Refusal.{Ends, is_within, within, civil_days, civil_seconds}
use Rattle.interim.specs.DatesAndTimes.{is_date, is_clock, date_at, time_at, IsDateOn}
use Rattle.interim.specs.Meaning.{moment_at}

-- ---- stretches

pub is_within-of : (ends : Ends) (n : ℤ) → ends.first ≤ℤ n → n ≤ℤ ends.last → is_within ends n ≡ true
is_within-of ends n low high = grind (arith, signed_arith)

pub is_within-tells : (ends : Ends) (n : ℤ) → is_within ends n ≡ true → (ends.first ≤ℤ n) × (n ≤ℤ ends.last)
is_within-tells ends n e =
    let parts = and_parts (int_le ends.first n) (int_le n ends.last) e in
    (omega (arith, signed_arith), omega (arith, signed_arith))

pub is_within-not : (ends : Ends) (n : ℤ) → (ends.first ≤ℤ n → n ≤ℤ ends.last → ⊥) → is_within ends n ≡ false
is_within-not ends n never =
    elim (cases_Bool (is_within ends n)) [
      | inl holds ↦ absurd (let parts = is_within-tells ends n holds in never parts.0 parts.1)
      | inr fails ↦ fails
    ]

-- ---- the calendar of `civil`

pub found_day : (day n : ℤ) → IsDay day → n ≡ day → within civil_days day ≡ Some n
found_day day n is e = rw (is_within-of civil_days day is.first is.last) (ap (λ (x : ℤ). Some x) (sym e))

pub no_day : (day : ℤ) → (IsDay day → ⊥) → within civil_days day ≡ None
no_day day never = rw (is_within-not civil_days day (λ low high. never (record { first = low; last = high }))) refl

-- a moment of the calendar, and one outside
pub found_moment : (s : ℤ) (f : ℕ) → IsWallSecond s → Some (s, f) ≡ moment_at civil_seconds s f
found_moment s f is = rw (is_within-of civil_seconds s is.first is.last) refl

pub no_moment : (s : ℤ) (f : ℕ) → (IsWallSecond s → ⊥) → None ≡ moment_at civil_seconds s f
no_moment s f never = rw (is_within-not civil_seconds s (λ low high. never (record { first = low; last = high }))) refl

-- a wall second outside the calendar has no day in it
pub no_wall_day : (w : ℤ) → (IsWallSecond w → ⊥) → is_within civil_days (wall_day w) ≡ false
unfolding wall_day
no_wall_day w never =
    is_within-not civil_days (wall_day w) (λ low high. never (record { first = omega (arith, signed_arith, low); last = omega (arith, signed_arith, high) }))

-- ---- dates

pub is_date-of : (y : ℤ) (m d : ℕ) → 1 ≤ m → m ≤ 12 → 1 ≤ d → d ≤ days_in_month y m → is_date y m d ≡ true
is_date-of y m d a b c e = rw (le-leb 1 m a, le-leb m 12 b, le-leb 1 d c, le-leb d (days_in_month y m) e) refl

pub is_date-tells : (y : ℤ) (m d : ℕ) → is_date y m d ≡ true → IsMonthDay y m d
is_date-tells y m d e =
    let front = and_parts _ (leb d (days_in_month y m)) e in
    let middle = and_parts _ (leb 1 d) front.0 in
    let start = and_parts (leb 1 m) (leb m 12) middle.0 in
    record { from = leb-true 1 m start.0; to = leb-true m 12 start.1; first = leb-true 1 d middle.1; last = leb-true d (days_in_month y m) front.1 }

pub found_date : (y z : ℤ) (m d : ℕ) (n : ℤ) → z ≡ y → IsDate z m d → IsDay n → n ≡ day_of z m d → date_at civil_days y m d ≡ Some n
unfolding date_at
found_date y z m d n e is inside v =
    let at : IsDate y m d = subst (λ (x : ℤ). IsDate x m d) e is in
    let same : n ≡ day_of y m d = v ∙ ap (λ (x : ℤ). day_of x m d) e in
    rw (is_date-of y m d at.first_month at.last_month at.first_day at.last_day, ← same) (found_day n n inside refl)

pub no_date : MonthDaysAreDays → (y z : ℤ) (m d : ℕ) → z ≡ y → (IsDate z m d → ⊥) → date_at civil_days y m d ≡ None
unfolding date_at
no_date law y z m d e never =
    elim (cases_Bool (is_date y m d)) [
      | inl holds ↦
          let date = law.inside y m d (is_date-tells y m d holds) in
          rw holds (no_day (day_of y m d) (λ day. never (subst (λ (x : ℤ). IsDate x m d) (sym e) (date day))))
      | inr fails ↦ rw fails refl
    ]

-- the date of a day, here and in `civil`
pub date_on : (day y : ℤ) (m d : ℕ) → IsDateOf day y m d → IsDateOn day y m d
date_on day y m d of =
    let is = of.exists in
    record { exists = is_date-of y m d is.first_month is.last_month is.first_day is.last_day; is = of.is }

-- ---- times of a day

found_parts : (h m s : ℕ) → IsClock h m s → time_at h m s ≡ Some (clock_second h m s, 0)
unfolding time_at
found_parts h m s is = rw (lt-ltb h 24 is.in_day, lt-ltb m 60 is.in_hour, lt-ltb s 60 is.in_minute) refl

pub found_time : (h m s second nanos : ℕ) → IsClock h m s → second ≡ clock_second h m s → nanos ≡ 0 → time_at h m s ≡ Some (second, nanos)
found_time h m s second nanos is e f = rw (e, f) (found_parts h m s is)

pub no_time : (h m s : ℕ) → (IsClock h m s → ⊥) → time_at h m s ≡ None
unfolding time_at
no_time h m s never =
    elim (cases_Bool (ltb h 24 && is_clock m s)) [
      | inl holds ↦
          let front = and_parts (ltb h 24) (is_clock m s) holds in
          let back = and_parts (ltb m 60) (ltb s 60) front.1 in
          absurd (never (record { in_day = ltb-true h 24 front.0; in_hour = ltb-true m 60 back.0; in_minute = ltb-true s 60 back.1 }))
      | inr fails ↦ rw fails refl
    ]
