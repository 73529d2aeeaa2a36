-- How many values, items and entries stand behind a place that has some (docs/FORMATS.md, "Items").
use Rattle.std.specs.Prelude.{ℕ, ◌*◌, slice_index, Option, Some, None, if◌then◌else◌, ◌==◌}
use Rattle.resb_tree.specs.Words.{unit_in}
use Rattle.resb_tree.specs.Bodies.{Body, area_len, area_unit}
use Rattle.resb_tree.specs.declared.forms.ArrayForm.{ArrayForm}
use Rattle.resb_tree.specs.declared.forms.ArrayForm.TheVariants as array
use Rattle.resb_tree.specs.declared.forms.TableForm.{TableForm}
use Rattle.resb_tree.specs.declared.forms.TableForm.TheVariants as table

-- the count at a word; none where the place is 0
abbrev pub count_there : Body → ℕ → ℕ
count_there b v = if v == 0 then 0 else slice_index b.words v

-- how many items an array has
abbrev pub items_count : ArrayForm → Body → ℕ → ℕ
items_count array.Long b v = count_there b v
items_count array.Short b v = area_unit b v

-- where the places of tables end
abbrev pub entries_end : TableForm → Body → ℕ
entries_end table.Narrow b = b.end
entries_end table.Wide b = b.end
entries_end table.Brief b = area_len b

-- how many entries a table has
abbrev pub entries_count : TableForm → Body → ℕ → ℕ
entries_count table.Narrow b v = if v == 0 then 0 else unit_in b.words (2 * v)
entries_count table.Wide b v = count_there b v
entries_count table.Brief b v = area_unit b v

-- how the arrays of a type of items stand, where it is one of arrays
abbrev pub array_form : ℕ → Option ArrayForm
array_form t = if t == 8 then Some array.Long else (if t == 9 then Some array.Short else None)

-- how the tables of a type of items stand, where it is one of tables
abbrev pub table_form : ℕ → Option TableForm
table_form t = if t == 2 then Some table.Narrow else (if t == 4 then Some table.Wide else (if t == 5 then Some table.Brief else None))
