use Rattle.std.proofs.Common.{◌+◌, ◌-◌, ◌*◌, ◌<◌, arith, rules}
use Rattle.resb_tree.specs.BodyView.{told}
use Rattle.resb_tree.proofs.LeafParts.{tree_is}
use Rattle.resb_tree.proofs.Parts.{array_there, table_there}
use Rattle.resb_tree.proofs.trees.+copy.Goals as goal

pub tree_of-overflow_sub-levels : goal.tree_of-overflow_sub-levels
tree_of-overflow_sub-levels t c = let low = (tree_is (told c.args.body.now) c.args.levels c.args.item c.requires).low in omega arith

pub tree_of-table_of-requires : goal.tree_of-table_of-requires
tree_of-table_of-requires t c =
    let b = told c.args.body.now in
    let low = (tree_is b c.args.levels c.args.item c.requires).low in
    let here = table_there b c.args.levels c.args.item c.in-Some.form c.requires c.args.body.now.some c.in-Some.ensures in
    let falls : 2 * (c.args.levels - 1) + 1 < 2 * c.args.levels = omega (arith, low) in
    search rules

pub tree_of-overflow_sub-levels-in-Some-array_form : goal.tree_of-overflow_sub-levels-in-Some-array_form
tree_of-overflow_sub-levels-in-Some-array_form t c = let low = (tree_is (told c.args.body.now) c.args.levels c.args.item c.requires).low in omega arith

pub tree_of-array_of-requires : goal.tree_of-array_of-requires
tree_of-array_of-requires t c =
    let b = told c.args.body.now in
    let low = (tree_is b c.args.levels c.args.item c.requires).low in
    let here = array_there b c.args.levels c.args.item c.in-Some-array_form.form c.requires c.args.body.now.some c.in-Some-array_form.ensures in
    let falls : 2 * (c.args.levels - 1) + 1 < 2 * c.args.levels = omega (arith, low) in
    search rules
