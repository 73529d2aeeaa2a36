use Rattle.interim.proofs.JiffTables.{tables_place}
use Rattle.interim.proofs.laws.jiff_tables_place.Goals as goal

pub returns : goal.returns
returns c = tables_place
