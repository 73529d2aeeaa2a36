-- Where the items of an array, and the key places and items of a table, stand (docs/FORMATS.md, "Items").
use Rattle.std.specs.Prelude.{ℕ, ◌+◌, ◌*◌, ◌/◌, slice_index, ◌≤◌}
use Rattle.resb_tree.specs.Words.{unit_in}
use Rattle.resb_tree.specs.Bodies.{Body, area_len, area_unit, text_item}
use Rattle.resb_tree.specs.declared.forms.ArrayForm.{ArrayForm}
use Rattle.resb_tree.specs.declared.forms.ArrayForm.TheVariants as array
use Rattle.resb_tree.specs.declared.forms.TableForm.{TableForm}
use Rattle.resb_tree.specs.declared.forms.TableForm.TheVariants as table

-- ---- arrays

-- the item at a place
abbrev pub item_in : ArrayForm → Body → ℕ → ℕ
item_in array.Long b = slice_index b.words
item_in array.Short b = text_item b

-- where the places end
abbrev pub items_end : ArrayForm → Body → ℕ
items_end array.Long b = b.end
items_end array.Short b = area_len b

-- ---- tables

-- the key place and the item of an entry
abbrev pub entry_in : TableForm → Body → ℕ → ℕ → ℕ → ℕ × ℕ
entry_in table.Narrow b v count k = (unit_in b.words (2 * v + 1 + k), slice_index b.words (v + (count + 2) / 2 + k))
entry_in table.Wide b v count k = (slice_index b.words (v + 1 + k), slice_index b.words (v + 1 + count + k))
entry_in table.Brief b v count k = (area_unit b (v + 1 + k), text_item b (v + 1 + count + k))

-- so many entries lie where they may
abbrev pub EntriesLie : TableForm → Body → ℕ → ℕ → Type 0
EntriesLie table.Narrow b v count = v + (count + 2) / 2 + count ≤ b.end
EntriesLie table.Wide b v count = v + 1 + 2 * count ≤ b.end
EntriesLie table.Brief b v count = v + 1 + 2 * count ≤ area_len b
