use Rattle.std.proofs.Common.{◌≡◌, length, w32, FitsSigned, rules, sym, ap, ◌∙◌, arith}
use Rattle.std.proofs.lemmas.Int.{ints, to_z-of_z}
use Rattle.timeline.specs.Inside.YearTransitions.{IsYearOf, year_place}
use Rattle.timeline.proofs.KeptRules.{kept-year}
use Rattle.timeline.proofs.transitions.first_of_rule.Goals as goal

pub returns-in-Some : goal.returns-in-Some
returns-in-Some c lawful =
    let r = c.in-Some.rule.now in
    let fits : FitsSigned w32 c.first_year.result = search rules in
    let year = to_z-of_z w32 c.first_year.result fits in
    let first : c.first_year.result ≡ r.first_year = c.first_year.ensures.value ∙ ap (λ k. k.first_year) c.years.ensures ∙ kept-year r in
    let high = c.first_year.ensures.range.1 in
    let same : year_place c.args.zone.now 0 ≡ length c.args.zone.now.table = omega arith in
    let of : IsYearOf c.args.zone.now c.first_year.result r 0 = record { rule = sym c.in-Some.ensures; is = omega (arith, ints, first); to = omega (arith, ints, high) } in
    rw same at (c.from_year.ensures r 0 lawful (rw (← year) at of))
