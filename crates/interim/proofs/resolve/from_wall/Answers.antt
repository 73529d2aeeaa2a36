use Rattle.std.proofs.Common.{◌≡◌, ℕ, ℤ, Option, None, rules, refl, sym, ap, ◌∙◌, to_z, of_z, to_z-of_z, w32, FitsSigned}
use Rattle.std.specs.Prelude.{option_and_then}
use Rattle.civil.specs.Months.{months_on}
use Rattle.interim.specs.declared.types.Interval.{Interval}
use Rattle.interim.specs.declared.types.Interval.TheVariants.{Months}
use Rattle.interim.specs.declared.types.DateSpec.TheVariants.{Relative}
use Rattle.interim.specs.Refusal.{within}
use Rattle.interim.specs.Aims.{Aim, clock_or, midnight}
use Rattle.interim.specs.Walls.{Wall}
use Rattle.interim.specs.Meaning.{Lands}
use Rattle.interim.specs.PartMeanings.{LeadsTo}
use Rattle.interim.proofs.Answered.{refused_lands, answers_weaker}
use Rattle.interim.proofs.resolve.from_wall.Goals as goal

pub returns-in_err-day-in-Relative-Months-clause-moment : goal.returns-in_err-day-in-Relative-Months-clause-moment
returns-in_err-day-in-Relative-Months-clause-moment g c =
    let count = c.in-Relative-Months.count in
    let fits : FitsSigned w32 c.in-Relative-Months.count = search rules in
    let same : to_z w32 (of_z w32 c.in-Relative-Months.count) ≡ c.in-Relative-Months.count = to_z-of_z fits in
    let spec : c.args.spec ≡ Relative (Months c.in-Relative-Months.count) = let inner : c.in-Relative-Months.field-0 ≡ Months c.in-Relative-Months.count = rw c.in-Relative-Months.is at c.in-Relative-Months.field-0-is in c.in-Relative-Months.is ∙ ap (λ (x : Interval). Relative x) inner in
    let date = c.in_err-day-in-Relative-Months.ensures in
    let days = g.Dt.Date.Date.calendar in
    let base : Wall = record { day = g.Dt.Date.Date.number c.args.date; time = g.Dt.Time.Time.time c.args.time } in
    let P : Option (ℤ × ℕ) → Type 0 = λ (r : Option (ℤ × ℕ)). (found : Option Aim) × LeadsTo days base c.args.dialect (Relative (Months c.in-Relative-Months.count)) c.args.clock found × Lands (g.Dt.DateTime.may_place c.args.tz) g.Dt.DateTime.seconds found r in
    rw spec (refused_lands g.Dt.Date.Date.memory g.Dt.DateTime.memory (λ (d : g.row.Dt-Date.Denot). g.Dt.Date.Date.number d) (λ (d : g.row.Dt.Denot). g.Dt.DateTime.moment d) _ _ _ P c.from_residual-in_err-day-in-Relative-Months.ensures.1 g.met.Dt.DateTime.date_wants
    (λ e. (None, (date.0, date.1, date.2, date.3, sym (ap (option_and_then (clock_or days midnight c.args.clock)) (ap (λ (n : ℤ). within days (months_on date.0 date.1 date.2 n)) (sym same) ∙ e))), refl)) date.4)

pub returns-in_ok-day-in-Relative-Months-clause-moment : goal.returns-in_ok-day-in-Relative-Months-clause-moment
returns-in_ok-day-in-Relative-Months-clause-moment g c =
    let fits : FitsSigned w32 c.in-Relative-Months.count = search rules in
    let same : to_z w32 (of_z w32 c.in-Relative-Months.count) ≡ c.in-Relative-Months.count = to_z-of_z fits in
    let spec : c.args.spec ≡ Relative (Months c.in-Relative-Months.count) = let inner : c.in-Relative-Months.field-0 ≡ Months c.in-Relative-Months.count = rw c.in-Relative-Months.is at c.in-Relative-Months.field-0-is in c.in-Relative-Months.is ∙ ap (λ (x : Interval). Relative x) inner in
    let date = c.in_ok-day-in-Relative-Months.ensures in
    let days = g.Dt.Date.Date.calendar in
    let day = g.Dt.Date.Date.number c.in_ok-day-in-Relative-Months.day in
    let base : Wall = record { day = g.Dt.Date.Date.number c.args.date; time = g.Dt.Time.Time.time c.args.time } in
    let P : Option (ℤ × ℕ) → Type 0 = Lands (g.Dt.DateTime.may_place c.args.tz) g.Dt.DateTime.seconds (clock_or days midnight c.args.clock day) in
    let Q : Option (ℤ × ℕ) → Type 0 = λ (r : Option (ℤ × ℕ)). (found : Option Aim) × LeadsTo days base c.args.dialect (Relative (Months c.in-Relative-Months.count)) c.args.clock found × Lands (g.Dt.DateTime.may_place c.args.tz) g.Dt.DateTime.seconds found r in
    rw spec (answers_weaker g.Dt.DateTime.memory (λ (d : g.row.Dt.Denot). g.Dt.DateTime.moment d) c.clock_or_midnight.result P Q
    (λ x h. (clock_or days midnight c.args.clock day, (date.0, date.1, date.2, date.3, sym (ap (option_and_then (clock_or days midnight c.args.clock)) (ap (λ (n : ℤ). within days (months_on date.0 date.1 date.2 n)) (sym same) ∙ date.4))), h))
    c.clock_or_midnight.ensures.moment)
