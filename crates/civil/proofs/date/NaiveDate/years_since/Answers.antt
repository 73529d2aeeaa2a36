use Rattle.std.proofs.Common.{◌≡◌, ◌∙◌, ◌↔◌, ℕ, ℤ, pos, ◌≤ℤ◌, IsSome, IfSome, subst, refl, arith, rules, to_z, of_z, to_z-of_z, w32, w64, FitsSigned}
use Rattle.civil.specs.CivilDates.{IsDateOf}
use Rattle.civil.specs.Ages.{years_between}
use Rattle.jiff_core.proofs.SignedLemmas.{signed_arith}
use Rattle.civil.proofs.DateOfDay.{moved_date}
use Rattle.civil.proofs.YearsBetween.{years_once}
use Rattle.civil.proofs.date.NaiveDate.years_since.Goals as goal
use Rattle.civil.proofs.date.NaiveDate.years_since.Goals.{After-count_of}

-- the years that the code computes
years : (c : After-count_of) (y : ℤ) (m d : ℕ) (y' : ℤ) (m' d' : ℕ) → IsDateOf c.args.self.now y m d → IsDateOf c.args.base y' m' d' → c.years_from.result ≡ years_between y m d y' m' d'
years c y m d y' m' d' is is' =
    let date = c.year_month_day-year.ensures in
    let base = c.year_month_day-base_year.ensures in
    let here : IsDateOf c.args.self.now c.year_month_day-year.result.0 c.year_month_day-year.result.1 c.year_month_day-year.result.2 =
    moved_date _ _ _ _ _ _ (omega (arith, signed_arith, c.day_number.ensures.value, c.day_number.ensures.bound.first, c.day_number.ensures.bound.last)) refl date in
    let there : IsDateOf c.args.base c.year_month_day-base_year.result.0 c.year_month_day-base_year.result.1 c.year_month_day-base_year.result.2 =
    moved_date _ _ _ _ _ _ (omega (arith, signed_arith, c.day_number-2.ensures.value, c.day_number-2.ensures.bound.first, c.day_number-2.ensures.bound.last)) refl base in
    let fits : FitsSigned w32 c.year_month_day-year.result.0 = search rules in
    let same : to_z w32 (of_z w32 c.year_month_day-year.result.0) ≡ c.year_month_day-year.result.0 = to_z-of_z fits in
    let fits' : FitsSigned w32 c.year_month_day-base_year.result.0 = search rules in
    let same' : to_z w32 (of_z w32 c.year_month_day-base_year.result.0) ≡ c.year_month_day-base_year.result.0 = to_z-of_z fits' in
    (rw (same, same', c.comes_before-before.ensures) at c.years_from.ensures.value) ∙ years_once _ _ _ _ _ _ _ _ _ _ _ _ _ _ here there is is'

pub returns-clause-some : goal.returns-clause-some
returns-clause-some c y m d y' m' d' is is' =
    let fits : FitsSigned w64 c.years_from.result = search rules in
    let e : to_z w64 (of_z w64 c.years_from.result) ≡ years_between y m d y' m' d' = to_z-of_z fits ∙ years c y m d y' m' d' is is' in
    let P : ℤ → Type 0 = λ z. IsSome c.count_of.result ↔ pos 0 ≤ℤ z in
    subst P e c.count_of.ensures.some

pub returns-clause-value : goal.returns-clause-value
returns-clause-value c y m d y' m' d' is is' =
    let fits : FitsSigned w64 c.years_from.result = search rules in
    let e : to_z w64 (of_z w64 c.years_from.result) ≡ years_between y m d y' m' d' = to_z-of_z fits ∙ years c y m d y' m' d' is is' in
    let P : ℤ → Type 0 = λ z. IfSome c.count_of.result (λ count. pos count ≡ z) in
    subst P e c.count_of.ensures.value
