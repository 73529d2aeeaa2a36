use Rattle.std.proofs.Common.{◌≡◌, true, false, pos, to_z, of_z, to_z-of_z, w32, sym, ap, ◌∙◌, arith}
use Rattle.std.specs.Int.{int_rem_euclid}
use Rattle.civil.specs.Calendar.{is_leap_year, year_start, weekday_of}
use Rattle.jiff_core.proofs.SignedLemmas.{signed_arith}
use Rattle.civil.proofs.YearKinds.{code_kind}
use Rattle.civil.proofs.calendar.year_kind.Goals as goal
use Rattle.civil.proofs.calendar.year_kind.Goals.{After-days_before_year, Then-is_leap}

pub returns-then-is_leap-clause-value : goal.returns-then-is_leap-clause-value
returns-then-is_leap-clause-value c =
    let year : to_z w32 (of_z w32 c.args.year) ≡ c.args.year = to_z-of_z c.ranges.year in
    let start = c.days_before_year.ensures.value ∙ ap year_start year in
    let weekday : c.rem_euclid-weekday.result ≡ weekday_of (year_start c.args.year) = c.rem_euclid-weekday.ensures.value ∙ ap (λ x. int_rem_euclid x (pos 7)) (omega (arith, signed_arith, start)) in
    let kind = code_kind c.args.year c.rem_euclid-weekday.result true weekday (sym c.if-is_leap.true ∙ c.is_leap.ensures ∙ ap is_leap_year year) in
    omega (arith, signed_arith, kind)

pub returns-else-is_leap-clause-value : goal.returns-else-is_leap-clause-value
returns-else-is_leap-clause-value c =
    let year : to_z w32 (of_z w32 c.args.year) ≡ c.args.year = to_z-of_z c.ranges.year in
    let start = c.days_before_year.ensures.value ∙ ap year_start year in
    let weekday : c.rem_euclid-weekday.result ≡ weekday_of (year_start c.args.year) = c.rem_euclid-weekday.ensures.value ∙ ap (λ x. int_rem_euclid x (pos 7)) (omega (arith, signed_arith, start)) in
    let kind = code_kind c.args.year c.rem_euclid-weekday.result false weekday (sym c.if-is_leap.false ∙ c.is_leap.ensures ∙ ap is_leap_year year) in
    omega (arith, signed_arith, kind)
