use Rattle.std.proofs.Common.{refl}
use Rattle.tell.proofs.LoadZones.{load_zones_there}
use Rattle.tell.proofs.load.answers.Goals as goal

pub returns-in-Done : goal.returns-in-Done
returns-in-Done c =
    let reported = rw (c.new-bundle.ensures, c.new-input.ensures, c.in_ok-answers.ensures) at c.at.ensures.done c.in-Done.is in
    let (zones, report, there, told, wrote) = reported.gained _ _ refl refl in
    rw (wrote, ← load_zones_there c.args.lines _ zones c.in_ok-bundle.ensures there, ← c.in_ok-input.ensures) told
