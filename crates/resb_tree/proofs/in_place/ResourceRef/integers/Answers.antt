use Rattle.std.proofs.Common.{arith}
use Rattle.resb_tree.specs.BodyView.{told}
use Rattle.resb_tree.proofs.LeafParts.{integers_here}
use Rattle.resb_tree.proofs.in_place.ResourceRef.integers.Goals as goal

pub count_there-count-requires : goal.count_there-count-requires
count_there-count-requires c =
    let s = c.self.inside in
    (integers_here (told s.body.now) s.levels s.item c.self.invariant s.body.now.some c.if-self-ne14.false).low

pub overflow_add-values-3 : goal.overflow_add-values-3
overflow_add-values-3 c =
    let s = c.self.inside in
    let fit = (integers_here (told s.body.now) s.levels s.item c.self.invariant s.body.now.some c.if-self-ne14.false).fit in
    let within = s.body.now.within in
    rw c.count_there-count.ensures (omega arith)

pub slice_bounds-values-end : goal.slice_bounds-values-end
slice_bounds-values-end c =
    let s = c.self.inside in
    let fit = (integers_here (told s.body.now) s.levels s.item c.self.invariant s.body.now.some c.if-self-ne14.false).fit in
    let within = s.body.now.within in
    let count = c.count_there-count.ensures in
    omega arith
