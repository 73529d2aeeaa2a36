use Rattle.std.proofs.Common.{◌≡◌, ◌↔◌, ℕ, ℤ, min, IsSome, IfSome, rules, refl, ap, subst, ◌∙◌, arith, to_z, of_z, to_z-of_z, w32, w64, FitsSigned}
use Rattle.civil.specs.CivilDates.{IsDate, IsDateOf}
use Rattle.civil.specs.Calendar.{day_of, days_in_month}
use Rattle.civil.specs.Months.{months_on, moved_year, moved_month}
use Rattle.jiff_core.proofs.SignedLemmas.{signed_arith}
use Rattle.civil.proofs.DateOfDay.{moved_date}
use Rattle.civil.proofs.DateMoves.{CodeMove, code_moves, month_has_days}
use Rattle.civil.proofs.date.NaiveDate.moved_by_months.Goals as goal
use Rattle.civil.proofs.date.NaiveDate.moved_by_months.Goals.{After-from_ymd_opt}

-- the year that was computed comes back from its bits
new_year : (c : After-from_ymd_opt) → to_z w32 (of_z w32 c.month_after-new_year.result.0) ≡ c.month_after-new_year.result.0
new_year c =
    let fits : FitsSigned w32 c.month_after-new_year.result.0 = search rules in
    to_z-of_z fits

-- what was computed is the moved date
move : (c : After-from_ymd_opt) (y : ℤ) (m d : ℕ) → IsDateOf c.args.self y m d → CodeMove c.month_after-new_year.result.0 c.month_after-new_year.result.1 c.min-new_day.result (months_on y m d c.args.months)
move c =
    let year = c.year_month_day-year.result.0 in
    let month = c.year_month_day-year.result.1 in
    let day = c.year_month_day-year.result.2 in
    let fits : FitsSigned w32 c.year_month_day-year.result.0 = search rules in
    let same_year : to_z w32 (of_z w32 c.year_month_day-year.result.0) ≡ c.year_month_day-year.result.0 = to_z-of_z fits in
    let same_months : to_z w64 (of_z w64 c.args.months) ≡ c.args.months = to_z-of_z c.ranges.months in
    let same_day : to_z w64 (of_z w64 c.day_number.result) ≡ c.args.self = omega (arith, signed_arith, c.day_number.ensures.value, c.day_number.ensures.bound.first, c.day_number.ensures.bound.last) in
    let is : IsDateOf c.args.self year month day = moved_date _ _ _ _ _ _ same_day refl c.year_month_day-year.ensures in
    let after = c.month_after-new_year.ensures in
    code_moves c.args.self year c.month_after-new_year.result.0 month day c.month_after-new_year.result.1 c.min-new_day.result c.args.months is
    (after.year ∙ (ap (λ (x : ℤ). moved_year x month (to_z w64 (of_z w64 c.args.months))) same_year ∙ ap (λ (x : ℤ). moved_year year month x) same_months))
    (after.month ∙ (ap (λ (x : ℤ). moved_month x month (to_z w64 (of_z w64 c.args.months))) same_year ∙ ap (λ (x : ℤ). moved_month year month x) same_months))
    after.in_year.0 after.in_year.1
    (c.min-new_day.ensures ∙ ap (λ (x : ℕ). min day x) (c.month_length.ensures ∙ ap (λ (x : ℤ). days_in_month x c.month_after-new_year.result.1) (new_year c)))
    (month_has_days c.month_after-new_year.result.0 c.month_after-new_year.result.1)

pub returns-clause-some : goal.returns-clause-some
returns-clause-some c y m d is =
    let moved = move c y m d is in
    let P : ℤ → Type 0 = λ x. IsSome c.from_ymd_opt.result ↔ IsDate x c.month_after-new_year.result.1 c.min-new_day.result in
    let some = subst P (new_year c) c.from_ymd_opt.ensures.some in
    (λ s. moved.exists.0 (some.0 s), λ i. some.1 (moved.exists.1 i))

pub returns-clause-value : goal.returns-clause-value
returns-clause-value c y m d is =
    let moved = move c y m d is in
    let P : ℤ → Type 0 = λ x. IfSome c.from_ymd_opt.result (λ date. date ≡ x) in
    subst P (ap (λ (x : ℤ). day_of x c.month_after-new_year.result.1 c.min-new_day.result) (new_year c) ∙ moved.is) c.from_ymd_opt.ensures.value
