use Rattle.std.proofs.Common.{◌≡◌, false, arith}
use Rattle.timeline.specs.Inside.YearTransitions.{is_idle}
use Rattle.timeline.proofs.NextYears.{first_here}
use Rattle.timeline.proofs.transitions.first_in_table.Goals as goal

pub returns-then-not-is_idle : goal.returns-then-not-is_idle
returns-then-not-is_idle g c =
    let moves : is_idle c.args.change c.before_entry.result c.table_entry-entry.result ≡ false = cc in
    first_here c.args.zone.now c.args.change c.args.from c.loop-n.n c.before_entry.result c.table_entry-entry.result c.before_entry.ensures c.table_entry-entry.ensures.value moves (omega arith) c.loop-n.invariant
