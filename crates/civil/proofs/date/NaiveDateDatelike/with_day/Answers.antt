use Rattle.std.proofs.Common.{◌≡◌, ℕ, ℤ, refl, sym, ◌∙◌, arith, rules, to_z, of_z, to_z-of_z, w32, FitsSigned}
use Rattle.civil.specs.CivilDates.{IsDateOf}
use Rattle.jiff_core.proofs.SignedLemmas.{signed_arith}
use Rattle.civil.proofs.DateOfDay.{moved_date}
use Rattle.civil.proofs.DateOrder.{date_once}
use Rattle.civil.proofs.Setters.{IsAnswer, answered}
use Rattle.civil.proofs.date.NaiveDateDatelike.with_day.Goals as goal
use Rattle.civil.proofs.date.NaiveDateDatelike.with_day.Goals.{After-from_ymd_opt}

answer : (c : After-from_ymd_opt) (y : ℤ) (m d : ℕ) → IsDateOf c.args.self.now y m d → IsAnswer c.from_ymd_opt.result y m c.args.day
answer c y m d is =
    let date = c.year_month_day-date.ensures in
    let here : IsDateOf c.args.self.now c.year_month_day-date.result.0 c.year_month_day-date.result.1 c.year_month_day-date.result.2 =
    moved_date _ _ _ _ _ _ (omega (arith, signed_arith, c.day_number.ensures.value, c.day_number.ensures.bound.first, c.day_number.ensures.bound.last)) refl date in
    let once = date_once _ _ _ _ _ _ _ is here in
    let fits : FitsSigned w32 c.year_month_day-date.result.0 = search rules in
    let same : to_z w32 (of_z w32 c.year_month_day-date.result.0) ≡ c.year_month_day-date.result.0 = to_z-of_z fits in
    answered _ _ _ _ _ _ _ (once.0 ∙ sym same) once.1 refl c.from_ymd_opt.ensures.some c.from_ymd_opt.ensures.value

pub returns-clause-value : goal.returns-clause-value
returns-clause-value c y m d is = (answer c y m d is).changed

pub returns-clause-some : goal.returns-clause-some
returns-clause-some c = λ _ y m d is. (answer c y m d is).exists
