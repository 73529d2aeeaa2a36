use Rattle.std.proofs.Common.{◌≤◌, [], length, arith}
use Rattle.resb_tree.specs.declared.resource.Resource.TheVariants as r
use Rattle.resb_tree.specs.Keys.{keys_in}
use Rattle.resb.specs.Entries.{values_in}
use Rattle.resb.proofs.LaidSteps.{length-values}
use Rattle.resb.proofs.LaidWords.{err_on}
use Rattle.resb.proofs.Told.{told_next, told_all, told_stop, puts_tells, array_told, table_told, parent_stop, value_at}
use Rattle.resb.proofs.TreeKinds.{parent-Array, parent-Table}
use Rattle.resb.proofs.writing.+tell.Goals as goal

pub tell_array-returns-in_err-tell : goal.tell_array-returns-in_err-tell
tell_array-returns-in_err-tell t c =
    let old = c.args.draft.now in
    let xs = c.args.items.now in
    err_on c.from_residual.result _ _ _ c.from_residual.ensures.1 (parent_stop old (r.Array xs) xs [] _ (parent-Array xs) (told_stop old c.loop-item.draft xs c.loop-item.item-index c.item-item.result _ c.loop-item-test.true c.item-item.is c.loop-item.invariant c.in_err-tell.ensures))

pub tell_array-loop-item-preserved : goal.tell_array-loop-item-preserved
tell_array-loop-item-preserved t c =
    told_next c.args.draft.now c.loop-item.draft c.tell.new.draft c.args.items.now c.loop-item.item-index c.item-item.result c.loop-item-test.true c.item-item.is c.loop-item.invariant c.in_ok-tell.ensures

pub tell_array-returns : goal.tell_array-returns
tell_array-returns t c =
    let xs = c.args.items.now in
    let all : length xs ≤ c.loop-item.item-index = omega arith in
    array_told c.args.draft.now c.loop-item.draft c.array.new.self xs c.array.result (told_all c.args.draft.now c.loop-item.draft xs c.loop-item.item-index all c.loop-item.invariant) c.array.ensures

pub tell_table-returns-in_err-tell : goal.tell_table-returns-in_err-tell
tell_table-returns-in_err-tell t c =
    let old = c.args.draft.now in
    let es = c.args.entries.now in
    let entry = c.loop-value-item.result in
    let at = value_at es c.loop-value.value-index entry c.loop-value-test.true c.loop-value-item.is in
    err_on c.from_residual.result _ _ _ c.from_residual.ensures.1 (parent_stop old (r.Table es) (values_in es) (keys_in es) _ (parent-Table es) (told_stop old c.loop-value.draft (values_in es) c.loop-value.value-index entry.1 _ at.0 at.1 c.loop-value.invariant c.in_err-tell.ensures))

pub tell_table-loop-value-preserved : goal.tell_table-loop-value-preserved
tell_table-loop-value-preserved t c =
    let es = c.args.entries.now in
    let entry = c.loop-value-item.result in
    let at = value_at es c.loop-value.value-index entry c.loop-value-test.true c.loop-value-item.is in
    told_next c.args.draft.now c.loop-value.draft c.tell.new.draft (values_in es) c.loop-value.value-index entry.1 at.0 at.1 c.loop-value.invariant c.in_ok-tell.ensures

pub tell_table-returns-in_err-keys : goal.tell_table-returns-in_err-keys
tell_table-returns-in_err-keys t c = err_on c.from_residual-in_err-keys.result _ _ _ c.from_residual-in_err-keys.ensures.1 (λ keys row good h. tt)

pub tell_table-returns : goal.tell_table-returns
tell_table-returns t c =
    let es = c.args.entries.now in
    let all : length (values_in es) ≤ c.loop-value.value-index = omega (arith, length-values es) in
    table_told c.args.draft.now c.loop-value.draft c.table_under.new.self es c.table_under.result (told_all c.args.draft.now c.loop-value.draft (values_in es) c.loop-value.value-index all c.loop-value.invariant)
    (rw (c.as_slice.ensures.value, c.in_ok-keys.ensures) at c.table_under.ensures)

pub tell-returns-in-Text : goal.tell-returns-in-Text
tell-returns-in-Text t c = rw (c.in-Text.is, ← c.as_slice.ensures) (puts_tells c.args.draft.now c.text.new.self (r.Text c.as_slice.result.now) c.text.result c.text.ensures)

pub tell-returns-in-Bytes : goal.tell-returns-in-Bytes
tell-returns-in-Bytes t c = rw (c.in-Bytes.is, ← c.as_slice-in-Bytes.ensures) (puts_tells c.args.draft.now c.bytes.new.self (r.Bytes c.as_slice-in-Bytes.result.now) c.bytes.result c.bytes.ensures)

pub tell-returns-in-Table : goal.tell-returns-in-Table
tell-returns-in-Table t c = rw (c.in-Table.is, ← c.as_slice-in-Table.ensures) c.tell_table.ensures

pub tell-returns-in-Integer : goal.tell-returns-in-Integer
tell-returns-in-Integer t c = rw c.in-Integer.is (puts_tells c.args.draft.now c.integer.new.self (r.Integer c.in-Integer.value) c.integer.result c.integer.ensures)

pub tell-returns-in-Array : goal.tell-returns-in-Array
tell-returns-in-Array t c = rw (c.in-Array.is, ← c.as_slice-in-Array.ensures) c.tell_array.ensures

pub tell-returns-in-Integers : goal.tell-returns-in-Integers
tell-returns-in-Integers t c = rw (c.in-Integers.is, ← c.as_slice-in-Integers.ensures) (puts_tells c.args.draft.now c.integers.new.self (r.Integers c.as_slice-in-Integers.result.now) c.integers.result c.integers.ensures)
