use Rattle.tell.specs.Inside.LoadTree.{region_tree}
use Rattle.tell.proofs.LoadDraft.{Grows}
use Rattle.tell.proofs.large.tell_regions.Given as goal

abbrev pub invariant-loop-number : goal.invariant-loop-number
invariant-loop-number l = Grows region_tree l.fn.draft l.draft l._number
