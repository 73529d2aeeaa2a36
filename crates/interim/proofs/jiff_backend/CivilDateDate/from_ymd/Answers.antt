use Rattle.std.proofs.Common.{◌≡◌, ◌∙◌, false, true, ℤ, sym, subst, arith, to_z-of_z}
use Rattle.jiff_core.proofs.SignedLemmas.{signed_casts}
use Rattle.jiff_core.proofs.CalendarLemmas.{days_in_month_bounds}
use Rattle.jiff_core.specs.Calendar.{IsCivilDate}
use Rattle.interim.proofs.JiffDays.{found, not_found, signed_date}
use Rattle.interim.proofs.jiff_backend.CivilDateDate.from_ymd.Goals as goal

pub returns-then-not-is_date : goal.returns-then-not-is_date
returns-then-not-is_date c =
    not_found c.jiff_days_are_days.ensures c.args.year c.args.month c.args.day (λ is.
    let there : false ≡ true = sym c.if-not-is_date.true ∙ c.is_date.ensures.1 (subst (λ (y : ℤ). IsCivilDate y c.args.month c.args.day) (sym (to_z-of_z c.ranges.year)) is) in
    cc)

pub date-requires : goal.date-requires
date-requires c =
    let is = subst (λ (y : ℤ). IsCivilDate y c.args.month c.args.day) (to_z-of_z c.ranges.year) (c.is_date.ensures.0 c.if-not-is_date.false) in
    let longest = days_in_month_bounds c.args.year c.args.month in
    signed_date c.args.year _ _ _ c.args.month c.args.day (omega (arith, signed_casts, is.0.0, is.0.1)) (omega (arith, signed_casts, is.1.1)) (omega (arith, signed_casts, is.2.1, longest.0)) is

pub returns : goal.returns
returns c =
    let is = subst (λ (y : ℤ). IsCivilDate y c.args.month c.args.day) (to_z-of_z c.ranges.year) (c.is_date.ensures.0 c.if-not-is_date.false) in
    let parts = c.date.ensures in
    let longest = days_in_month_bounds c.args.year c.args.month in
    found c.jiff_days_are_days.ensures c.date.result c.args.year c.args.month c.args.day (omega (arith, signed_casts, parts.0, is.0.0, is.0.1)) (omega (arith, signed_casts, parts.1, is.1.1)) (omega (arith, signed_casts, parts.2, is.2.1, longest.0))
