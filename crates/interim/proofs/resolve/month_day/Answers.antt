use Rattle.std.proofs.Common.{◌≡◌, ℤ, ◌+ℤ◌, rules, sym, ap, ◌∙◌, arith, to_z, of_z, to_z-of_z, w32, FitsSigned}
use Rattle.std.specs.Ordering.{int_cmp}
use Rattle.jiff_core.proofs.SignedLemmas.{signed_arith}
use Rattle.interim.specs.DatesAndTimes.{date_at}
use Rattle.interim.specs.Walls.{month_day, step_by}
use Rattle.interim.proofs.Answered.{refused_on, gives_at, month_day-none, month_day-is}
use Rattle.interim.proofs.resolve.month_day.Goals as goal

pub returns-in_err-date : goal.returns-in_err-date
returns-in_err-date g c =
    let year = c.year-year.ensures.year in
    let fits : FitsSigned w32 c.year-year.result = search rules in
    let same : to_z w32 (of_z w32 c.year-year.result) ≡ c.year-year.result = to_z-of_z fits in
    let days = g.D.Date.calendar in
    let base = g.D.Date.number c.args.base in (
      c.year-year.result,
      year.0,
      year.1,
      year.2,
      refused_on g.D.Date.memory g.D.Date.memory (λ (d : g.row.D.Denot). g.D.Date.number d) (λ (d : g.row.D.Denot). g.D.Date.number d) _ _ _ (month_day days base c.year-year.result c.args.month c.args.day c.args.direction) c.from_residual.ensures.1 (λ wants. wants)
          (λ e. month_day-none days base c.year-year.result c.args.month c.args.day c.args.direction (ap (λ (y : ℤ). date_at days y c.args.month c.args.day) (sym same) ∙ e)) c.in_err-date.ensures,
    )

pub returns : goal.returns
returns g c =
    let year = c.year-year.ensures.year in
    let fits : FitsSigned w32 c.year-year.result = search rules in
    let same : to_z w32 (of_z w32 c.year-year.result) ≡ c.year-year.result = to_z-of_z fits in
    let days = g.D.Date.calendar in
    let base = g.D.Date.number c.args.base in
    let day = g.D.Date.number c.in_ok-date.date in
    let found : date_at g.D.Date.calendar c.year-year.result c.args.month c.args.day ≡ _ = ap (λ (y : ℤ). date_at days y c.args.month c.args.day) (sym same) ∙ c.in_ok-date.ensures in
    let step : c.step.result ≡ step_by c.args.direction (int_cmp day base) = c.step.ensures.value (int_cmp day base) (g.met.D.Date.ordered c.in_ok-date.date c.args.base) in
    let moved : to_z w32 (of_z w32 (to_z w32 (of_z w32 c.year-year.result) +ℤ to_z w32 (of_z w32 c.step.result))) ≡ c.year-year.result +ℤ step_by c.args.direction (int_cmp day base) = omega (arith, signed_arith, step, c.year-year.ensures.low, c.year-year.ensures.high, c.step.ensures.low, c.step.ensures.high) in (
      c.year-year.result,
      year.0,
      year.1,
      year.2,
      gives_at _ _ _ _ _ (ap (λ (y : ℤ). date_at days y c.args.month c.args.day) moved ∙ sym (month_day-is days base c.year-year.result day c.args.month c.args.day c.args.direction found)) c.from_ymd-2.ensures,
    )
