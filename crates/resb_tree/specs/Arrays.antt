-- Arrays of a bundle (ICU resource bundle, format 2; docs/FORMATS.md, "Items").
use Rattle.std.specs.Prelude.{ℕ, ◌+◌, List, [], ◌∷◌, slice_index, Option, Some, if◌then◌else◌, ◌==◌}
use Rattle.resb_tree.specs.Words.{run}
use Rattle.resb_tree.specs.declared.resource.Resource.{Resource}
use Rattle.resb_tree.specs.declared.resource.Resource.TheVariants as r
use Rattle.resb_tree.specs.Options.{◌>>=◌}
use Rattle.resb_tree.specs.Bodies.{Body, text_item, counted, area_counted}

-- what each item denotes, in order, where each denotes something
abbrev pub all_of : (ℕ → Option Resource) → List ℕ → Option (List Resource)
all_of one [] = Some []
all_of one (item ∷ items) = do
  first ← one item
  others ← all_of one items
  Some (first ∷ others)

-- the items behind their count, a word each; none where the place is 0
unfoldable pub array_at : (ℕ → Option Resource) → Body → ℕ → Option Resource
array_at one b v =
    if v == 0 then Some (r.Array [])
    else (counted b v 1 >>= λ count. all_of one (run (slice_index b.words) (v + 1) count) >>= λ items. Some (r.Array items))

-- the items behind their count in the area, each a text
unfoldable pub short_array_at : (ℕ → Option Resource) → Body → ℕ → Option Resource
short_array_at one b v =
    area_counted b v 1 >>= λ count. all_of one (run (text_item b) (v + 1) count) >>= λ items. Some (r.Array items)
