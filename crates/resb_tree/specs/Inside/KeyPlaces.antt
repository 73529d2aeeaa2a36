-- The keys at places of a body, where there are some (docs/FORMATS.md, "Keys").
use Rattle.std.specs.Prelude.{◌≡◌, ℕ, ◌<◌, List, [], length, map, Option, Some, None}
use Rattle.resb_tree.specs.Options.{◌>>=◌}
use Rattle.resb_tree.specs.Bodies.{Body}
use Rattle.resb_tree.specs.Tables.{key_at}
use Rattle.resb_tree.specs.Inside.Forms.{entry_in}
use Rattle.resb_tree.specs.declared.forms.TableForm.{TableForm}

-- a list, or an empty one where there is none
abbrev pub the_list : {A : Type 0} → Option (List A) → List A
the_list (Some xs) = xs
the_list None = []

-- the key at a place
abbrev pub key_there : Body → ℕ → List ℕ
key_there b place = the_list (key_at b place)

-- a key begins at a place
abbrev pub IsKey : Body → ℕ → Type 0
IsKey b place = key_at b place ≡ Some (key_there b place)

-- how many bytes the key at a place has
abbrev pub key_length : Body → ℕ → Option ℕ
key_length b place = key_at b place >>= λ key. Some (length key)

-- the keys of entries
abbrev pub keys_there : Body → List (ℕ × ℕ) → List (List ℕ)
keys_there b entries = map (λ e. key_there b e.0) entries

-- each entry of a table begins with the place of a key
abbrev pub HaveKeys : Body → TableForm → ℕ → ℕ → Type 0
HaveKeys b form v count = (k : ℕ) → k < count → IsKey b (entry_in form b v count k).0
