use Rattle.std.proofs.Common.{◌≡◌, pos, ◌+ℤ◌, to_z, of_z, to_z-of_z, FitsSigned, w32, w64, ap, ◌∙◌, rules, arith}
use Rattle.civil.specs.Calendar.{year_second, example_year}
use Rattle.jiff_core.proofs.SignedLemmas.{signed_arith}
use Rattle.timeline.specs.Rule.{first_entry, second_entry}
use Rattle.timeline.specs.Timeline.{offset_of}
use Rattle.timeline.specs.Neighbours.{step}
use Rattle.timeline.specs.Inside.EntryWalls.{walls}
use Rattle.timeline.proofs.CheckYears.{year_told, example_high}
use Rattle.timeline.proofs.check.year_fault.Goals as goal

pub overflow_add-high : goal.overflow_add-high
overflow_add-high g c = omega (arith, signed_arith, c.first_second-low.ensures.reach.0, c.first_second-low.ensures.reach.1, c.seconds_of_kind.ensures.low, c.seconds_of_kind.ensures.high)

pub returns-clause-value : goal.returns-clause-value
returns-clause-value g c = λ r is.
    let k = c.args.kind in
    let y = example_year k in
    let year_fits : FitsSigned w32 c.example_year-year.result = search rules in
    let year : to_z w32 (of_z w32 c.example_year-year.result) ≡ y = to_z-of_z year_fits ∙ c.example_year-year.ensures.value in
    let before = (c.year_at-before.ensures.year r is).before ∙ ap (λ y. offset_of (second_entry r y)) year in
    let first = (c.year_at-before.ensures.year r is).first ∙ ap (first_entry r) year in
    let second = (c.year_at-before.ensures.year r is).second ∙ ap (second_entry r) year in
    let low_fits : FitsSigned w64 c.first_second-low.result = search rules in
    let low = to_z w64 (of_z w64 c.first_second-low.result) in
    let high = to_z w64 (of_z w64 (low +ℤ to_z w64 (of_z w64 c.seconds_of_kind.result))) in
    let low_is : low ≡ year_second y = to_z-of_z low_fits ∙ c.first_second-low.ensures.value ∙ ap year_second year in
    let high_is : high ≡ year_second (y +ℤ pos 1) = omega (arith, signed_arith, low_is, c.first_second-low.ensures.reach.0, c.first_second-low.ensures.reach.1, c.seconds_of_kind.ensures, example_high c.example_years.ensures c.counts_years.ensures k c.requires.kind) in
    let one = c.step_walls.ensures ∙ ap (λ o. walls (step o c.year_at-before.result.1)) before ∙ ap (λ e. walls (step (offset_of (second_entry r y)) e)) first in
    let other = c.step_walls-2.ensures ∙ ap (λ o. walls (step o c.year_at-before.result.2)) (c.offset_from-between.ensures ∙ ap offset_of first) ∙ ap (λ e. walls (step (offset_of (first_entry r y)) e)) second in
    year_told r y c.step_walls.result c.step_walls-2.result low high c.pair_fault.result one other low_is high_is c.pair_fault.ensures
