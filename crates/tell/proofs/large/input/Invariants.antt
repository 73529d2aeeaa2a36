use Rattle.std.proofs.Common.{◌≡◌}
use Rattle.tell.specs.Load.{load_input}
use Rattle.tell.proofs.large.input.Given as goal

abbrev pub invariant-loop-number : goal.invariant-loop-number
invariant-loop-number l = l.input.items ≡ load_input l.number
