use Rattle.std.proofs.Common.{sym, arith}
use Rattle.resb_tree.specs.BodyView.{told}
use Rattle.resb_tree.proofs.LeafParts.{text_here, short_here}
use Rattle.resb_tree.proofs.in_place.ResourceRef.text.Goals as goal

pub count_there-count-requires : goal.count_there-count-requires
count_there-count-requires c =
    let s = c.self.inside in
    (text_here (told s.body.now) s.levels s.item c.self.invariant s.body.now.some c.in-0.is).low

pub invariant_of-result : goal.invariant_of-result
invariant_of-result c =
    let s = c.self.inside in
    let fit = (text_here (told s.body.now) s.levels s.item c.self.invariant s.body.now.some c.in-0.is).fit in
    let within = s.body.now.within in
    rw c.count_there-count.ensures (omega arith)

pub returns-in_ok-from-in-6 : goal.returns-in_ok-from-in-6
returns-in_ok-from-in-6 c =
    let s = c.self.inside in
    rw (← c.self.view_is) (short_here (told s.body.now) s.levels s.item (c.in_ok-from-in-6.from, c.in_ok-from-in-6.count) c.self.invariant c.in-6.is (sym c.in_ok-from-in-6.ensures.value))
