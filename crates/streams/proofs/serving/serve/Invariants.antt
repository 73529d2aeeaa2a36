use Rattle.std.proofs.Common.{◌≤◌, ◌-◌}
use Rattle.streams.proofs.ServeLemmas.{HasServed}
use Rattle.streams.proofs.serving.serve.Given as goal

-- what was taken and gained between two pieces
abbrev pub invariant-serving : goal.invariant-serving
invariant-serving g l = record {
  served : HasServed (g.A.Answer.reply l.engine) (g.I.Source.left l.initial.input) (g.I.Source.left l.input) (g.O.Sink.written l.initial.output) (g.O.Sink.written l.output) l.start l.taken;
  in_range : l.taken ≤ 16777216;
  read_later : g.I.Source.faults l.initial.input ≤ g.I.Source.faults l.input;
  written_later : g.O.Sink.faults l.initial.output ≤ g.O.Sink.faults l.output;
}

abbrev pub decreases-serving : goal.decreases-serving
decreases-serving g l = 16777217 - l.taken
