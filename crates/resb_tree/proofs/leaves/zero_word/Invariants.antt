use Rattle.std.proofs.Common.{◌≡◌, ◌-◌, ◌*◌}
use Rattle.resb_tree.specs.Bodies.{area_len, area_unit}
use Rattle.resb_tree.specs.BodyView.{told}
use Rattle.resb_tree.specs.Inside.Spans.{zero_from}
use Rattle.resb_tree.proofs.leaves.zero_word.Given as goal

abbrev pub invariant-loop-at : goal.invariant-loop-at
invariant-loop-at l =
    let b = told l.body in
    zero_from (area_unit b) (2 * l.at) (area_len b - 2 * l.at) ≡ zero_from (area_unit b) (2 * l.from) (area_len b - 2 * l.from)
