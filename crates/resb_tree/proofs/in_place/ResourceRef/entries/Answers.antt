use Rattle.std.proofs.Common.{arith}
use Rattle.resb_tree.specs.BodyView.{told}
use Rattle.resb_tree.proofs.LeafParts.{tree_is}
use Rattle.resb_tree.proofs.Parts.{table_there, table_entries}
use Rattle.resb_tree.proofs.in_place.ResourceRef.entries.Goals as goal

pub overflow_sub-self-inside : goal.overflow_sub-self-inside
overflow_sub-self-inside c = let s = c.self.inside in let low = (tree_is (told s.body.now) s.levels s.item c.self.invariant).low in omega arith

pub entries_from-requires-clause-are : goal.entries_from-requires-clause-are
entries_from-requires-clause-are c = let s = c.self.inside in (table_there (told s.body.now) s.levels s.item c.in_ok-form.form c.self.invariant s.body.now.some c.in_ok-form.ensures).are

pub entries_from-requires-clause-low : goal.entries_from-requires-clause-low
entries_from-requires-clause-low c = let s = c.self.inside in (table_there (told s.body.now) s.levels s.item c.in_ok-form.form c.self.invariant s.body.now.some c.in_ok-form.ensures).low

pub returns : goal.returns
returns c = let s = c.self.inside in rw (← c.self.view_is, c.entries_from.ensures) (table_entries _ _ (table_there (told s.body.now) s.levels s.item c.in_ok-form.form c.self.invariant s.body.now.some c.in_ok-form.ensures).is)
