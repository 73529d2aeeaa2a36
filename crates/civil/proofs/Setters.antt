-- What a setter answers, for any reading of the date that it changes.
use Rattle.std.proofs.Common.{◌≡◌, ◌↔◌, ℕ, ◌-◌, Option, Some, None, IsSome, IfSome, refl, sym, arith, ℤ, pos, ◌+ℤ◌}
use Rattle.civil.specs.Calendar.{year_start, day_of}
use Rattle.civil.specs.CivilDates.{HoldsDay, IsDate, IsDateOf, IsDay, min_year}
use Rattle.civil.specs.Inside.Years.{IsYear}
use Rattle.civil.specs.Ordinals.{IsOrdinal, IsOrdinalOf, ordinal_day}
use Rattle.jiff_core.proofs.SignedLemmas.{signed_arith}
use Rattle.civil.proofs.CalendarLemmas.{starts_in_order, year_start-next, first_start, last_start}
use Rattle.civil.proofs.DateMoves.{year_once}

pub record IsAnswer (r : Option ℤ) (y : ℤ) (m d : ℕ) : Type 0 where
  pub changed : IfSome r (λ date. IsDateOf date y m d)
  pub exists : IsSome r ↔ IsDate y m d × Unit {0}

-- of a call that makes the date of a year, month and day
made : (r : Option ℤ) (y : ℤ) (m d : ℕ) → (IsSome r ↔ IsDate y m d) → IfSome r (λ date. date ≡ day_of y m d) → IfSome r (λ date. IsDateOf date y m d)
made (Some x) y m d some is = record { exists = some.0 refl; is = sym is }
made None y m d some is = tt

pub answered : (r : Option ℤ) (y x : ℤ) (m n d k : ℕ) → x ≡ y → n ≡ m → k ≡ d → (IsSome r ↔ IsDate y m d) → IfSome r (λ date. date ≡ day_of y m d) → IsAnswer r x n k
answered r y x m n d k year month day some is =
    rw (year, month, day) (record {
      changed = made r y m d some is;
      exists = (λ s. (some.0 s, tt), λ e. some.1 e.0);
    })

pub record IsOrdinalAnswer (r : Option ℤ) (y : ℤ) (n : ℕ) : Type 0 where
  pub changed : IfSome r (λ date. IsOrdinalOf date y n)
  pub exists : IsSome r ↔ IsOrdinal y n × Unit {0}

made_ordinal : (r : Option ℤ) (y : ℤ) (n : ℕ) → (IsSome r ↔ IsOrdinal y n) → IfSome r (λ date. date ≡ ordinal_day y n) → IfSome r (λ date. IsOrdinalOf date y n)
made_ordinal (Some x) y n some is = record { exists = some.0 refl; is = sym is }
made_ordinal None y n some is = tt

pub answered_ordinal : (r : Option ℤ) (y x : ℤ) (n : ℕ) → x ≡ y → (IsSome r ↔ IsOrdinal y n) → IfSome r (λ date. date ≡ ordinal_day y n) → IsOrdinalAnswer r x n
answered_ordinal r y x n year some is =
    rw year (record {
      changed = made_ordinal r y n some is;
      exists = (λ s. (some.0 s, tt), λ e. some.1 e.0);
    })

-- `ordinal_day` as an equation, for `omega`
pub ordinal_day-is : (y : ℤ) (n : ℕ) → ordinal_day y n ≡ year_start y +ℤ pos (n - 1)
unfolding ordinal_day
ordinal_day-is y n = refl

pub holds_ordinal : (day y : ℤ) (n : ℕ) → IsOrdinalOf day y n → HoldsDay y day
holds_ordinal day y n is = record {
  begun = omega (arith, signed_arith, is.is, ordinal_day-is y n);
  not_over = omega (arith, signed_arith, is.is, ordinal_day-is y n, year_start-next y, is.exists.first, is.exists.last);
}

pub ordinal_once : (day y z : ℤ) (n k : ℕ) → IsOrdinalOf day y n → IsOrdinalOf day z k → y ≡ z
ordinal_once day y z n k is there = year_once day y z (holds_ordinal day y n is) (holds_ordinal day z k there)

-- the days of a year of the calendar are days of it
pub ordinal_inside : (y : ℤ) (n : ℕ) → IsYear y → IsOrdinal y n → IsDay (ordinal_day y n)
ordinal_inside y n year is = record {
  first = omega (arith, signed_arith, ordinal_day-is y n, first_start, starts_in_order min_year y year.first);
  last = omega (arith, signed_arith, ordinal_day-is y n, is.first, is.last, year_start-next y, last_start, starts_in_order (y +ℤ pos 1) (pos 262143) (omega (arith, signed_arith, year.last)));
}
