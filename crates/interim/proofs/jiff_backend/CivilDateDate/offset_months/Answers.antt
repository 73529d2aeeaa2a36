use Rattle.std.proofs.Common.{◌≡◌, ℕ, ℤ, Option, Some, None, min, refl, sym, ap, subst, ◌∙◌, arith, to_z, of_z, to_z-of_z, w32, FitsSigned}
use mir.Syntax.{w16}
use Rattle.civil.specs.Calendar.{days_in_month}
use Rattle.civil.specs.Months.{moved_year, moved_month, months_on}
use Rattle.jiff_core.proofs.SignedLemmas.{signed_arith, signed_casts}
use Rattle.jiff_core.specs.Date.{epoch_day}
use Rattle.jiff_core.specs.declared.civil.date.Date.{Date}
use Rattle.interim.specs.Jiff.{jiff_days}
use Rattle.interim.specs.DatesAndTimes.{IsDateOn}
use Rattle.interim.specs.Refusal.{within}
use Rattle.interim.proofs.JiffDays.{date_of, moved_in, moved_out}
use Rattle.interim.proofs.jiff_backend.CivilDateDate.offset_months.Goals as goal
use Rattle.interim.proofs.jiff_backend.CivilDateDate.offset_months.Goals.{then-year-ltminus9999-via-then-year-ltminus9999, then-year-ltminus9999-via-else-year-ltminus9999+then-year-gt9999}

-- the date of a day, and where so many months lead from it
IsMoved : ℤ → Option ℤ → Date → Type 0
IsMoved n found date = (y : ℤ) × (m : ℕ) × (d : ℕ) × IsDateOn (epoch_day date) y m d × (within jiff_days (months_on y m d n) ≡ found)

year_back : (date : Date) → to_z w16 (of_z w16 date.year) ≡ date.year
year_back date = let fits : FitsSigned w16 date.year = omega (arith, signed_arith, date.year_in) in to_z-of_z fits

pub returns-then-year-ltminus9999 : goal.returns-then-year-ltminus9999
unfolding IsMoved
returns-then-year-ltminus9999 c =
    let date = c.to_plain-date.result in
    let after = c.month_after-year.result in
    let moved = c.month_after-year.ensures in
    let months = to_z-of_z c.ranges.months in
    let year : after.0 ≡ moved_year date.year date.month c.args.months = moved.year ∙ ap (λ (x : ℤ). moved_year x date.month (to_z w32 (of_z w32 c.args.months))) (year_back date) ∙ ap (λ (n : ℤ). moved_year date.year date.month n) months in
    let month : after.1 ≡ moved_month date.year date.month c.args.months = moved.month ∙ ap (λ (x : ℤ). moved_month x date.month (to_z w32 (of_z w32 c.args.months))) (year_back date) ∙ ap (λ (n : ℤ). moved_month date.year date.month n) months in
    subst (IsMoved c.args.months None) c.to_plain-date.ensures (
      date.year,
      date.month,
      date.day,
      date_of c.jiff_days_are_days.ensures date date.year refl,
      moved_out c.jiff_days_are_days.ensures date after.0 c.args.months after.1 year month moved.in_year.0 moved.in_year.1 (λ is.
          elim c.then-year-ltminus9999.branch [
            | then-year-ltminus9999-via-then-year-ltminus9999 w ↦ omega (arith, signed_casts, is.0, is.1, w.if-year-ltminus9999)
            | then-year-ltminus9999-via-else-year-ltminus9999+then-year-gt9999 w ↦ omega (arith, signed_casts, is.0, is.1, w.if-year-gt9999)
          ]),
    )

pub returns : goal.returns
unfolding IsMoved
returns c =
    let date = c.to_plain-date.result in
    let after = c.month_after-year.result in
    let moved = c.month_after-year.ensures in
    let cut = c.constrain-cut.ensures in
    let months = to_z-of_z c.ranges.months in
    let year : after.0 ≡ moved_year date.year date.month c.args.months = moved.year ∙ ap (λ (x : ℤ). moved_year x date.month (to_z w32 (of_z w32 c.args.months))) (year_back date) ∙ ap (λ (n : ℤ). moved_year date.year date.month n) months in
    let month : after.1 ≡ moved_month date.year date.month c.args.months = moved.month ∙ ap (λ (x : ℤ). moved_month x date.month (to_z w32 (of_z w32 c.args.months))) (year_back date) ∙ ap (λ (n : ℤ). moved_month date.year date.month n) months in
    let back : to_z w16 (of_z w16 (to_z w32 (of_z w32 after.0))) ≡ after.0 = omega (arith, signed_casts, moved.bound.0, moved.bound.1, c.if-year-ltminus9999.false, c.if-year-gt9999.false) in
    let found : within jiff_days (months_on date.year date.month date.day c.args.months) ≡ Some (epoch_day c.constrain-cut.result) = moved_in c.jiff_days_are_days.ensures date c.constrain-cut.result after.0 c.args.months after.1 year month (cut.year ∙ back) cut.month (cut.day ∙ ap (λ (y : ℤ). min date.day (days_in_month y after.1)) back) in
    subst (IsMoved c.args.months (Some (epoch_day c.from_plain.result))) c.to_plain-date.ensures (
      date.year,
      date.month,
      date.day,
      date_of c.jiff_days_are_days.ensures date date.year refl,
      found ∙ ap (λ (x : Date). Some (epoch_day x)) (sym c.from_plain.ensures),
    )
