use Rattle.std.proofs.Common.{◌≡◌, ◌∙◌, sym, refl, ap, arith, rules, to_z, of_z, to_z-of_z, w32, FitsSigned, unsigned_abs}
use Rattle.civil.specs.CivilDates.{IsDateOf}
use Rattle.civil.specs.Dates.{year_sign}
use Rattle.jiff_core.proofs.SignedLemmas.{signed_arith}
use Rattle.civil.proofs.DateOfDay.{moved_date}
use Rattle.civil.proofs.DateTexts.{written, date_text-is}
use Rattle.civil.proofs.date_text.NaiveDateDisplay.fmt.Goals as goal

pub returns-clause-writes : goal.returns-clause-writes
returns-clause-writes g c = λ plain ok.
    let date = c.year_month_day-year.result in
    let here : IsDateOf c.args.self.now date.0 date.1 date.2 =
    moved_date _ _ _ _ _ _ (omega (arith, signed_arith, c.day_number.ensures.value, c.day_number.ensures.bound.first, c.day_number.ensures.bound.last)) refl c.year_month_day-year.ensures in
    let fits : FitsSigned w32 c.year_month_day-year.result.0 = search rules in
    let same : to_z w32 (of_z w32 c.year_month_day-year.result.0) ≡ c.year_month_day-year.result.0 = to_z-of_z fits in
    let text = written c.sign_of-sign.result.now c.unsigned_abs-size.result date.0 date.1 date.2 (c.sign_of-sign.ensures ∙ ap year_sign same) (c.unsigned_abs-size.ensures.value ∙ ap unsigned_abs same) in
    rw (text ∙ sym (date_text-is _ _ _ _ here)) at (c.write.ensures.writes plain ok)
