-- The tree that the words of a bundle denote (ICU resource bundle, format 2; docs/FORMATS.md, "Items").
use Rattle.std.specs.Prelude.{ℕ, zero, suc, ◌/◌, ◌%◌, slice_index, Option, Some, None, if◌then◌else◌, ◌==◌, nat_le}
use Rattle.resb_tree.specs.Words.{value_count}
use Rattle.resb_tree.specs.Weight.{weight}
use Rattle.resb_tree.specs.declared.resource.Resource.{Resource}
use Rattle.resb_tree.specs.declared.resource.Resource.TheVariants as r
use Rattle.resb_tree.specs.Options.{◌>>=◌, when}
use Rattle.resb_tree.specs.Bodies.{Body}
use Rattle.resb_tree.specs.Leaves.{integers_at, bytes_at, text_at, short_text_at}
use Rattle.resb_tree.specs.Arrays.{array_at, short_array_at}
use Rattle.resb_tree.specs.Tables.{table16_at, table32_at, short_table_at}

-- what an item of a type and a value denotes; types 0 to 2, 4 to 9 and 14 are read
unfoldable pub by_type : (ℕ → Option Resource) → Body → ℕ → ℕ → Option Resource
by_type one b t v =
    if t == 0 then text_at b v else (
    if t == 1 then bytes_at b v else (
    if t == 2 then table16_at one b v else (
    if t == 4 then table32_at one b v else (
    if t == 5 then short_table_at one b v else (
    if t == 6 then short_text_at b v else (
    if t == 7 then Some (r.Integer v) else (
    if t == 8 then array_at one b v else (
    if t == 9 then short_array_at one b v else (
    if t == 14 then integers_at b v else None)))))))))

-- what an item denotes with so many levels left, its own among them
unfoldable pub tree_at : Body → ℕ → ℕ → Option Resource
tree_at b zero item = None
tree_at b (suc levels) item = by_type (tree_at b levels) b (item / value_count) (item % value_count)

-- the tree of the root item, of at most 8 levels, where its weight is within the limit
unfoldable pub denoted : Body → ℕ → Option Resource
denoted b limit = tree_at b 8 (slice_index b.words 0) >>= λ found. when (nat_le (weight found) limit) found
