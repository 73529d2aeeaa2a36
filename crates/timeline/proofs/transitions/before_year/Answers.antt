use Rattle.std.proofs.Common.{ap, ◌∙◌, arith}
use Rattle.std.proofs.lemmas.Int.{ints}
use Rattle.timeline.specs.Inside.YearTransitions.{last_of_year}
use Rattle.timeline.proofs.NextYears.{last_before_year}
use Rattle.timeline.proofs.transitions.before_year.Goals as goal

pub returns-in-Some : goal.returns-in-Some
returns-in-Some g c r j lawful of =
    let told = c.last_of_year.ensures ∙ ap (last_of_year c.args.change) c.entries_of.ensures.value in
    (last_before_year c.args.zone.now c.args.year _ r j c.args.change c.last_of_year.result lawful of (omega (arith, ints)) told).0 c.in-Some.entry c.in-Some.is

pub returns-in-None : goal.returns-in-None
returns-in-None g c r j lawful of =
    let told = c.last_of_year.ensures ∙ ap (last_of_year c.args.change) c.entries_of.ensures.value in
    (last_before_year c.args.zone.now c.args.year _ r j c.args.change c.last_of_year.result lawful of (omega (arith, ints)) told).1 c.in-None.is _ (rw c.len.ensures at c.last_in_table.ensures)
