use Rattle.std.proofs.Common.{arith}
use Rattle.resb_tree.specs.BodyView.{told}
use Rattle.resb_tree.proofs.LeafParts.{tree_is}
use Rattle.resb_tree.proofs.Parts.{array_there, array_items}
use Rattle.resb_tree.proofs.in_place.ResourceRef.items.Goals as goal

pub overflow_sub-self-inside : goal.overflow_sub-self-inside
overflow_sub-self-inside c = let s = c.self.inside in let low = (tree_is (told s.body.now) s.levels s.item c.self.invariant).low in omega arith

pub items_from-requires-clause-low : goal.items_from-requires-clause-low
items_from-requires-clause-low c = let s = c.self.inside in (array_there (told s.body.now) s.levels s.item c.in_ok-form.form c.self.invariant s.body.now.some c.in_ok-form.ensures).low

pub items_from-requires-clause-are : goal.items_from-requires-clause-are
items_from-requires-clause-are c = let s = c.self.inside in (array_there (told s.body.now) s.levels s.item c.in_ok-form.form c.self.invariant s.body.now.some c.in_ok-form.ensures).are

pub returns : goal.returns
returns c = let s = c.self.inside in rw (← c.self.view_is, c.items_from.ensures) (array_items _ _ (array_there (told s.body.now) s.levels s.item c.in_ok-form.form c.self.invariant s.body.now.some c.in_ok-form.ensures).is)
