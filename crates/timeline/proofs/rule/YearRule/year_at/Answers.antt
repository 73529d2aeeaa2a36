use Rattle.std.proofs.Common.{◌≡◌, ℕ, ℤ, to_z, of_z, to_z-of_z, FitsSigned, w32, w64, ap, ◌∙◌, rules}
use Rattle.civil.specs.Calendar.{year_start, year_kind}
use Rattle.timeline.specs.Inside.KeptYears.{BeginsYear}
use Rattle.timeline.proofs.rule.YearRule.year_at.Goals as goal

-- the day and the kind are those of the year
of_year : (y a day : ℤ) (k : ℕ) → a ≡ y → day ≡ year_start a → k ≡ year_kind a → BeginsYear y day k
of_year y a day k e d f = record { first_day = d ∙ ap year_start e; kind = f ∙ ap year_kind e }

pub returns-clause-year : goal.returns-clause-year
returns-clause-year g c =
    let year : to_z w32 (of_z w32 c.args.year) ≡ c.args.year = to_z-of_z c.ranges.year in
    let fits : FitsSigned w64 c.days_before_year.result = search rules in
    c.year_of.ensures c.args.year (of_year _ _ _ _ year (to_z-of_z fits ∙ c.days_before_year.ensures.value) c.year_kind.ensures.value)
