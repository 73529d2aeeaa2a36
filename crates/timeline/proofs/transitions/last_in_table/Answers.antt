use Rattle.std.proofs.Common.{◌≡◌, ◌-◌, false, arith}
use Rattle.timeline.specs.Inside.YearTransitions.{is_idle}
use Rattle.timeline.proofs.NextYears.{last_here}
use Rattle.timeline.proofs.transitions.last_in_table.Goals as goal

pub returns-then-not-is_idle : goal.returns-then-not-is_idle
returns-then-not-is_idle g c =
    let moves : is_idle c.args.change c.before_entry.result c.table_entry-entry.result ≡ false = cc in
    let within = c.loop-n.invariant.within in
    last_here c.args.zone.now c.args.change c.args.to (c.loop-n.n - 1) c.before_entry.result c.table_entry-entry.result c.before_entry.ensures c.table_entry-entry.ensures.value moves (omega arith)
    (λ m f le lt counts. c.loop-n.invariant.none m f (omega arith) lt counts)
