use Rattle.resb.specs.Entries.{values_in}
use Rattle.resb.proofs.Told.{Begun}
use Rattle.resb.proofs.writing.+tell.Given as goal

abbrev pub invariant-tell_array-loop-item : goal.invariant-tell_array-loop-item
invariant-tell_array-loop-item l = Begun l.fn.draft l.draft l.items l.item-index

abbrev pub invariant-tell_table-loop-value : goal.invariant-tell_table-loop-value
invariant-tell_table-loop-value l = Begun l.fn.draft l.draft (values_in l.entries) l.value-index
