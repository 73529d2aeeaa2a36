use Rattle.std.proofs.Common.{arith}
use Rattle.resb_tree.specs.Inside.Forms.{entry_in}
use Rattle.resb_tree.specs.Inside.Walk.{left_behind}
use Rattle.resb_tree.proofs.Checks.{have_keys}
use Rattle.resb_tree.proofs.checking.+walk.Goals as goal

pub table_left-are_apart-requires-clause-keys : goal.table_left-are_apart-requires-clause-keys
table_left-are_apart-requires-clause-keys t c =
    let b = c.args.checker.now in
    let at = entry_in c.args.form b c.args.v c.in_ok-count.count in
    rw c.in_ok-rest.ensures.same (λ k lt. have_keys b (left_behind b c.args.levels) at 0 c.in_ok-count.count _ _ c.in_ok-rest.ensures.value k (omega arith) (omega arith))
