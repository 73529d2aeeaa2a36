use Rattle.std.proofs.Common.{◌≡◌, ◌+◌, ◌-◌, ◌*◌}
use Rattle.resb_tree.specs.Words.{run}
use Rattle.resb_tree.specs.Inside.Forms.{item_in, entry_in}
use Rattle.resb_tree.specs.Inside.Left.{items_left, key_left, entries_left}
use Rattle.resb_tree.specs.Inside.Walk.{left_behind}
use Rattle.resb_tree.proofs.checking.+walk.Given as goal

abbrev pub decreases-item_left : goal.decreases-item_left
decreases-item_left l = 4 * l.levels

abbrev pub decreases-items_left : goal.decreases-items_left
decreases-items_left l = 4 * l.levels + 1

abbrev pub decreases-entries_left : goal.decreases-entries_left
decreases-entries_left l = 4 * l.levels + 1

abbrev pub decreases-array_left : goal.decreases-array_left
decreases-array_left l = 4 * l.levels + 2

abbrev pub decreases-table_left : goal.decreases-table_left
decreases-table_left l = 4 * l.levels + 2

abbrev pub decreases-nested_left : goal.decreases-nested_left
decreases-nested_left l = 4 * l.levels + 3

-- what is still left behind the items to come is what is left behind all; the body stays
abbrev pub invariant-items_left-loop-at : goal.invariant-items_left-loop-at
invariant-items_left-loop-at l =
    let b = l.fn.checker in
    let at = item_in l.form b in record {
      same : l.checker ≡ b;
      read : items_left (left_behind b l.levels) (run at l.at (l.from + l.count - l.at)) l.left ≡ items_left (left_behind b l.levels) (run at l.from l.count) l.limit;
    }

abbrev pub invariant-entries_left-loop-k : goal.invariant-entries_left-loop-k
invariant-entries_left-loop-k l =
    let b = l.fn.checker in
    let at = entry_in l.form b l.v l.count in record {
      same : l.checker ≡ b;
      read : entries_left (key_left b) (left_behind b l.levels) (run at l.k (l.count - l.k)) l.left ≡ entries_left (key_left b) (left_behind b l.levels) (run at 0 l.count) l.limit;
    }
