-- What a walk that only checks leaves of the limit behind each part (docs/FORMATS.md, "Weight").
use Rattle.std.specs.Prelude.{ℕ, ◌+◌, List, [], ◌∷◌, Option, Some, None, nat_le, ◌-◌, cond, if◌then◌else◌, ◌==◌}
use Rattle.resb_tree.specs.Keys.{distinct}
use Rattle.resb_tree.specs.Words.{run}
use Rattle.resb_tree.specs.Options.{◌>>=◌, when}
use Rattle.resb_tree.specs.Bodies.{Body, counted}
use Rattle.resb_tree.specs.Inside.Forms.{item_in, entry_in}
use Rattle.resb_tree.specs.Inside.Counts.{no_items, array_count, no_entries, table_count}
use Rattle.resb_tree.specs.Inside.Spans.{short_span}
use Rattle.resb_tree.specs.Inside.KeyPlaces.{key_length, keys_there}
use Rattle.resb_tree.specs.declared.forms.ArrayForm.{ArrayForm}
use Rattle.resb_tree.specs.declared.forms.TableForm.{TableForm}

-- what a weight leaves of the limit, or nothing past it
abbrev pub spent : ℕ → ℕ → Option ℕ
spent limit n = cond (nat_le n limit) (Some (limit - n)) None

-- behind a count and its values, of which so many fit a word
unfoldable pub counted_left : Body → ℕ → ℕ → ℕ → Option ℕ
counted_left b v per limit = if v == 0 then spent limit 1 else (counted b v per >>= λ count. spent limit (count + 1))

-- behind a text of the area
unfoldable pub short_text_left : Body → ℕ → ℕ → Option ℕ
short_text_left b v limit = short_span b v >>= λ span. spent limit (span.1 + 1)

-- behind each item in turn
abbrev pub items_left : (ℕ → ℕ → Option ℕ) → List ℕ → ℕ → Option ℕ
items_left one [] limit = Some limit
items_left one (item ∷ items) limit = one item limit >>= λ left. items_left one items left

-- behind an array
unfoldable pub array_left : ArrayForm → (ℕ → ℕ → Option ℕ) → Body → ℕ → ℕ → Option ℕ
array_left form one b v limit = do
  left ← spent limit 1
  if no_items form v then Some left else do
    count ← array_count form b v
    items_left one (run (item_in form b) (v + 1) count) left

-- behind a key
unfoldable pub key_left : Body → ℕ → ℕ → Option ℕ
key_left b place limit = key_length b place >>= λ n. spent limit n

-- behind each key and value in turn
abbrev pub entries_left : (ℕ → ℕ → Option ℕ) → (ℕ → ℕ → Option ℕ) → List (ℕ × ℕ) → ℕ → Option ℕ
entries_left key one [] limit = Some limit
entries_left key one (entry ∷ entries) limit = do
  left ← key entry.0 limit
  rest ← one entry.1 left
  entries_left key one entries rest

-- behind a table, whose keys differ
unfoldable pub table_left : TableForm → (ℕ → ℕ → Option ℕ) → Body → ℕ → ℕ → Option ℕ
table_left form one b v limit = do
  left ← spent limit 1
  if no_entries form v then Some left else do
    count ← table_count form b v
    rest ← entries_left (key_left b) one (run (entry_in form b v count) 0 count) left
    when (distinct (keys_there b (run (entry_in form b v count) 0 count))) rest
