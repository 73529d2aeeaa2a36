-- The words and the item that are written for a resource (docs/FORMATS.md, "The writer").
use Rattle.std.specs.Prelude.{ℕ, ◌+◌, ◌*◌, List, [], ◌∷◌, ◌++◌, length, map}
use Rattle.resb_tree.specs.Words.{value_count}
use Rattle.resb_tree.specs.declared.resource.Resource.{Resource, fold-Resource}
use Rattle.resb_tree.specs.declared.resource.Resource.TheOpen.{Resource-F}
use Rattle.resb.specs.Packing.{pack_bytes, pack_units}

-- an item is its type in the high 4 bits of a word, and its value in the low 28
abbrev pub item : ℕ → ℕ → ℕ
item type value = value_count * type + value

-- from a place for each key, and from a body word on: the words, and the item that stands for the resource
abbrev pub Laid : Type 0
Laid = (List ℕ → ℕ) → ℕ → List ℕ × ℕ

-- the count, the units, and a zero unit behind them; an empty text is item 0
abbrev pub text_laid : List ℕ → Laid
text_laid [] places at = ([], item 0 0)
text_laid (u ∷ units) places at = (length (u ∷ units) ∷ pack_units ((u ∷ units) ++ 0 ∷ []), item 0 at)

-- the count and the bytes; no bytes are an item with the value 0
abbrev pub bytes_laid : List ℕ → Laid
bytes_laid [] places at = ([], item 1 0)
bytes_laid (b ∷ bytes) places at = (length (b ∷ bytes) ∷ pack_bytes (b ∷ bytes), item 1 at)

-- the count and the numbers; no numbers are an item with the value 0
abbrev pub integers_laid : List ℕ → Laid
integers_laid [] places at = ([], item 14 0)
integers_laid (v ∷ values) places at = (length (v ∷ values) ∷ v ∷ values, item 14 at)

-- children one after the other: their words, and their items
abbrev pub lay_all : List Laid → (List ℕ → ℕ) → ℕ → List ℕ × List ℕ
lay_all [] places at = ([], [])
lay_all (x ∷ xs) places at =
    let first = x places at in
    let others = lay_all xs places (at + length first.0) in
    (first.0 ++ others.0, first.1 ∷ others.1)

-- the items' words, the count, and the items; an empty array is an item with the value 0
abbrev pub array_laid : List Laid → Laid
array_laid [] places at = ([], item 8 0)
array_laid (x ∷ xs) places at =
    let inner = lay_all (x ∷ xs) places at in
    (inner.0 ++ length inner.1 ∷ inner.1, item 8 (at + length inner.0))

-- the values' words, the count with the keys' places, and the values' items; an empty table is an item with the value 0
abbrev pub table_laid : List (List ℕ × Laid) → Laid
table_laid [] places at = ([], item 2 0)
table_laid (e ∷ es) places at =
    let inner = lay_all (map (λ (x : List ℕ × Laid). x.1) (e ∷ es)) places at in (
      inner.0 ++ pack_units (length (e ∷ es) ∷ map (λ (x : List ℕ × Laid). places x.0) (e ∷ es)) ++ inner.1,
      item 2 (at + length inner.0),
    )

-- how a tree is laid by how its children are
abbrev pub layer_laid : Resource-F Laid → Laid
layer_laid (Resource-F.Text units) = text_laid units
layer_laid (Resource-F.Bytes bytes) = bytes_laid bytes
layer_laid (Resource-F.Table entries) = table_laid entries
layer_laid (Resource-F.Integer v) = λ places at. ([], item 7 v)
layer_laid (Resource-F.Array items) = array_laid items
layer_laid (Resource-F.Integers values) = integers_laid values

-- children before their parent, in order, none shared; an empty resource and an integer take no words
unfoldable pub laid : Resource → Laid
laid = fold-Resource Laid layer_laid
