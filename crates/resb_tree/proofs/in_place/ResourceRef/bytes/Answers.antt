use Rattle.std.proofs.Common.{arith}
use Rattle.resb_tree.specs.BodyView.{told}
use Rattle.resb_tree.proofs.LeafParts.{bytes_here}
use Rattle.resb_tree.proofs.in_place.ResourceRef.bytes.Goals as goal

pub count_there-count-requires : goal.count_there-count-requires
count_there-count-requires c =
    let s = c.self.inside in
    (bytes_here (told s.body.now) s.levels s.item c.self.invariant s.body.now.some c.if-self-ne1.false).low

pub invariant_of-result : goal.invariant_of-result
invariant_of-result c =
    let s = c.self.inside in
    let fit = (bytes_here (told s.body.now) s.levels s.item c.self.invariant s.body.now.some c.if-self-ne1.false).fit in
    let within = s.body.now.within in
    rw c.count_there-count.ensures (omega arith)
