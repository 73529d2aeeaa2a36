use Rattle.std.proofs.Common.{◌≡◌, refl, ℤ, to_z, of_z, w32, w64, subst, arith}
use Rattle.civil.specs.CivilDates.{HoldsDay}
use Rattle.jiff_core.proofs.SignedLemmas.{signed_arith}
use Rattle.civil.proofs.CalendarLemmas.{first_start_i32, last_start_i32, year_of_32_bits}
use Rattle.civil.proofs.calendar.year_of_day.Goals as goal
use Rattle.civil.proofs.calendar.year_of_day.Goals.{After-year_near, then-day-lt-FIRST_DAY-via-then-day-lt-FIRST_DAY, then-day-lt-FIRST_DAY-via-else-day-lt-FIRST_DAY+then-day-gt-LAST_DAY}

pub returns-then-day-lt-FIRST_DAY-clause-some : goal.returns-then-day-lt-FIRST_DAY-clause-some
returns-then-day-lt-FIRST_DAY-clause-some c =
    elim c.then-day-lt-FIRST_DAY.branch [
      | then-day-lt-FIRST_DAY-via-then-day-lt-FIRST_DAY w ↦ (λ e. cc, λ is. absurd (omega (arith, signed_arith, first_start_i32, is.0)))
      | then-day-lt-FIRST_DAY-via-else-day-lt-FIRST_DAY+then-day-gt-LAST_DAY w ↦ (λ e. cc, λ is. absurd (omega (arith, signed_arith, last_start_i32, is.1)))
    ]

-- the year that was found holds the day, and is one of 32 bits
held : (c : After-year_near) → HoldsDay c.year_near.result c.args.day
held c = record {
  begun = omega (arith, signed_arith, c.year_near.ensures.begun);
  not_over = omega (arith, signed_arith, c.year_near.ensures.not_over);
}

pub overflow_cast-result : goal.overflow_cast-result
overflow_cast-result c =
    let fits = year_of_32_bits c.year_near.result c.args.day (held c) (omega (arith, signed_arith)) (omega (arith, signed_arith)) in
    omega (arith, signed_arith, fits.0, fits.1)

pub returns-clause-some : goal.returns-clause-some
returns-clause-some c = (λ e. (omega (arith, signed_arith, first_start_i32), omega (arith, signed_arith, last_start_i32)), λ is. refl)

pub returns-clause-year : goal.returns-clause-year
returns-clause-year c =
    let fits = year_of_32_bits c.year_near.result c.args.day (held c) (omega (arith, signed_arith)) (omega (arith, signed_arith)) in
    let same : c.year_near.result ≡ to_z w32 (of_z w32 (to_z w64 (of_z w64 c.year_near.result))) = omega (arith, signed_arith, fits.0, fits.1) in
    let P : ℤ → Type 0 = λ y. HoldsDay y c.args.day in
    subst P same (held c)
