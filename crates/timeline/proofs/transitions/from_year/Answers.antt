use Rattle.std.proofs.Common.{w32}
use Rattle.std.proofs.lemmas.Int.{to_z-of_z}
use Rattle.timeline.proofs.NextYears.{first_from_year}
use Rattle.timeline.proofs.transitions.from_year.Goals as goal

pub returns : goal.returns
returns c r j lawful of =
    let year = to_z-of_z w32 c.args.year c.ranges.year in
    let told = rw year at c.entries_of.ensures.value in
    rw (c.first_of_year.ensures, told) (first_from_year c.args.zone.now c.args.year r j c.args.change lawful of)
