-- How many items and entries stand behind a place, where they lie where they may (docs/FORMATS.md, "Items").
use Rattle.std.specs.Prelude.{ℕ, ◌+◌, ◌*◌, ◌/◌, Bool, false, ◌&&◌, slice_index, Option, Some, None, if◌then◌else◌, ◌==◌, nat_le, nat_lt}
use Rattle.resb_tree.specs.Words.{unit_in}
use Rattle.resb_tree.specs.Bodies.{Body, counted, area_counted}
use Rattle.resb_tree.specs.declared.forms.ArrayForm.{ArrayForm}
use Rattle.resb_tree.specs.declared.forms.ArrayForm.TheVariants as array
use Rattle.resb_tree.specs.declared.forms.TableForm.{TableForm}
use Rattle.resb_tree.specs.declared.forms.TableForm.TheVariants as table

-- a long array has no words where its place is 0
abbrev pub no_items : ArrayForm → ℕ → Bool
no_items array.Long v = v == 0
no_items array.Short v = false

-- how many items the array at a place has, where they lie where they may
abbrev pub array_count : ArrayForm → Body → ℕ → Option ℕ
array_count array.Long b v = counted b v 1
array_count array.Short b v = area_counted b v 1

-- a table whose places are no units of the area has no words where its place is 0
abbrev pub no_entries : TableForm → ℕ → Bool
no_entries table.Narrow v = v == 0
no_entries table.Wide v = v == 0
no_entries table.Brief v = false

-- how many entries the table at a place has, where they lie where they may
abbrev pub table_count : TableForm → Body → ℕ → Option ℕ
table_count table.Narrow b v =
    let count = unit_in b.words (2 * v) in
    if nat_lt v b.end && nat_le (v + (count + 2) / 2 + count) b.end then Some count else None
table_count table.Wide b v =
    let count = slice_index b.words v in
    if nat_lt v b.end && nat_le (v + 1 + 2 * count) b.end then Some count else None
table_count table.Brief b v = area_counted b v 2
