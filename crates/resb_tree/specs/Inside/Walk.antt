-- What a walk that only checks leaves of the limit behind an item (docs/FORMATS.md, "Weight").
use Rattle.std.specs.Prelude.{ℕ, zero, suc, ◌/◌, ◌%◌, Option, None, if◌then◌else◌, ◌==◌}
use Rattle.resb_tree.specs.Words.{value_count}
use Rattle.resb_tree.specs.Bodies.{Body}
use Rattle.resb_tree.specs.Inside.Left.{spent, counted_left, short_text_left, array_left, table_left}
use Rattle.resb_tree.specs.declared.forms.ArrayForm.TheVariants as array
use Rattle.resb_tree.specs.declared.forms.TableForm.TheVariants as table

-- behind a table or an array of a type and a value
unfoldable pub nested_left : (ℕ → ℕ → Option ℕ) → Body → ℕ → ℕ → ℕ → Option ℕ
nested_left one b t v limit =
    if t == 2 then table_left table.Narrow one b v limit else (
    if t == 4 then table_left table.Wide one b v limit else (
    if t == 5 then table_left table.Brief one b v limit else (
    if t == 8 then array_left array.Long one b v limit else (
    if t == 9 then array_left array.Short one b v limit else None))))

-- behind an item of a type and a value
unfoldable pub typed_left : (ℕ → ℕ → Option ℕ) → Body → ℕ → ℕ → ℕ → Option ℕ
typed_left one b t v limit =
    if t == 0 then counted_left b v 2 limit else (
    if t == 1 then counted_left b v 4 limit else (
    if t == 6 then short_text_left b v limit else (
    if t == 7 then spent limit 1 else (
    if t == 14 then counted_left b v 1 limit else nested_left one b t v limit))))

-- behind an item, with so many levels left, its own among them
unfoldable pub left_behind : Body → ℕ → ℕ → ℕ → Option ℕ
left_behind b zero item limit = None
left_behind b (suc levels) item limit = typed_left (left_behind b levels) b (item / value_count) (item % value_count) limit
