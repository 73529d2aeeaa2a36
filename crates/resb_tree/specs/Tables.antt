-- Tables of a bundle and their keys (ICU resource bundle, format 2; docs/FORMATS.md, "Keys").
use Rattle.std.specs.Prelude.{ℕ, zero, suc, ◌+◌, ◌-◌, ◌*◌, ◌/◌, ◌&&◌, List, [], ◌∷◌, map, slice_index, Option, Some, None, if◌then◌else◌, ◌==◌, nat_le, nat_lt}
use Rattle.resb_tree.specs.Keys.{distinct}
use Rattle.resb_tree.specs.Words.{byte_in, unit_in, run}
use Rattle.resb_tree.specs.declared.resource.Resource.{Resource}
use Rattle.resb_tree.specs.declared.resource.Resource.TheVariants as r
use Rattle.resb_tree.specs.Options.{◌>>=◌, when}
use Rattle.resb_tree.specs.Bodies.{Body, area_unit, text_item, area_counted}

-- the bytes from a place up to a zero byte, each 1 to 127, within so many bytes
unfoldable pub key_from : (ℕ → ℕ) → ℕ → ℕ → Option (List ℕ)
key_from byte place zero = None
key_from byte place (suc more) =
    let b = byte place in
    if b == 0 then Some [] else (if nat_lt b 128 then (key_from byte (place + 1) more >>= λ bs. Some (b ∷ bs)) else None)

-- a key is named by the byte where it begins, counted from the root item, and ends before the keys' end
unfoldable pub key_at : Body → ℕ → Option (List ℕ)
key_at b place = key_from (byte_in b.words) place (4 * b.keys_end - place)

-- the entries whose key places and items these are
abbrev pub entries_of : (ℕ → Option (List ℕ)) → (ℕ → Option Resource) → List (ℕ × ℕ) → Option (List (List ℕ × Resource))
entries_of key one [] = Some []
entries_of key one (entry ∷ entries) = do
  name ← key entry.0
  value ← one entry.1
  others ← entries_of key one entries
  Some ((name, value) ∷ others)

-- a table of these, in which no two keys are equal
abbrev pub table_of : (ℕ → Option Resource) → Body → List (ℕ × ℕ) → Option Resource
table_of one b places =
    entries_of (key_at b) one places >>= λ entries. when (distinct (map (λ e. e.0) entries)) (r.Table entries)

-- with 16-bit key places: the units of the count and of the places fill whole words, and the items follow
abbrev pub places16 : Body → ℕ → ℕ → List (ℕ × ℕ)
places16 b v count =
    run (λ k. (unit_in b.words (2 * v + 1 + k), slice_index b.words (v + (count + 2) / 2 + k))) 0 count

-- such a table at a place; none where the place is 0
unfoldable pub table16_at : (ℕ → Option Resource) → Body → ℕ → Option Resource
table16_at one b v =
    if v == 0 then Some (r.Table []) else (
    let count = unit_in b.words (2 * v) in
    if nat_lt v b.end && nat_le (v + (count + 2) / 2 + count) b.end then table_of one b (places16 b v count) else None)

-- with key places of a word each
abbrev pub places32 : Body → ℕ → ℕ → List (ℕ × ℕ)
places32 b v count = run (λ k. (slice_index b.words (v + 1 + k), slice_index b.words (v + 1 + count + k))) 0 count

-- such a table at a place; none where the place is 0
unfoldable pub table32_at : (ℕ → Option Resource) → Body → ℕ → Option Resource
table32_at one b v =
    if v == 0 then Some (r.Table []) else (
    let count = slice_index b.words v in
    if nat_lt v b.end && nat_le (v + 1 + 2 * count) b.end then table_of one b (places32 b v count) else None)

-- in the 16-bit area, where the values are texts
abbrev pub short_places : Body → ℕ → ℕ → List (ℕ × ℕ)
short_places b v count = run (λ k. (area_unit b (v + 1 + k), text_item b (v + 1 + count + k))) 0 count

-- such a table at a unit
unfoldable pub short_table_at : (ℕ → Option Resource) → Body → ℕ → Option Resource
short_table_at one b v = area_counted b v 2 >>= λ count. table_of one b (short_places b v count)
