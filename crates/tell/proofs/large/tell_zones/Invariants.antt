use Rattle.tell.specs.Inside.LoadTree.{zone_tree}
use Rattle.tell.proofs.LoadDraft.{Grows}
use Rattle.tell.proofs.large.tell_zones.Given as goal

abbrev pub invariant-loop-number : goal.invariant-loop-number
invariant-loop-number l = Grows zone_tree l.fn.draft l.draft l.number
