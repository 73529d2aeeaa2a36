use Rattle.std.proofs.Common.{◌≡◌, ◌+◌, ◌*◌}
use Rattle.resb_tree.specs.Words.{run}
use Rattle.resb_tree.specs.BodyView.{told}
use Rattle.resb_tree.specs.Inside.Places.{items_there, entry_there}
use Rattle.resb_tree.proofs.trees.+copy.Given as goal

abbrev pub decreases-tree_of : goal.decreases-tree_of
decreases-tree_of l = 2 * l.levels

abbrev pub decreases-array_of : goal.decreases-array_of
decreases-array_of l = 2 * l.levels + 1

abbrev pub decreases-table_of : goal.decreases-table_of
decreases-table_of l = 2 * l.levels + 1

abbrev pub invariant-array_of-loop-k : goal.invariant-array_of-loop-k
invariant-array_of-loop-k l = l.items ≡ items_there (told l.body) l.form l.levels (l.v + 1) l.k

abbrev pub invariant-table_of-loop-k : goal.invariant-table_of-loop-k
invariant-table_of-loop-k l = l.entries ≡ run (entry_there (told l.body) l.form l.levels l.v l.count) 0 l.k
