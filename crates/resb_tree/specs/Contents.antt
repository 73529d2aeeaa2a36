-- What a resource holds, as its readers tell it (docs/FORMATS.md, "Items").
use Rattle.std.specs.Prelude.{ℕ, ◌%◌, List, Option, Some, None, ℤ, option_map}
use Rattle.resb_tree.specs.Words.{value_count, sign_extended}
use Rattle.resb_tree.specs.declared.resource.Resource.{Resource, out-Resource}
use Rattle.resb_tree.specs.declared.resource.Resource.TheOpen.{Resource-F}

-- the units of a text, by its outermost layer
abbrev pub text_layer : Resource-F Resource → Option (List ℕ)
text_layer (Resource-F.Text units) = Some units
text_layer _ = None

-- the units of a text
abbrev pub text_in : Resource → Option (List ℕ)
text_in t = text_layer (out-Resource t)

-- the bytes of a list of bytes, by its outermost layer
abbrev pub bytes_layer : Resource-F Resource → Option (List ℕ)
bytes_layer (Resource-F.Bytes bytes) = Some bytes
bytes_layer _ = None

-- the bytes of a list of bytes
abbrev pub bytes_in : Resource → Option (List ℕ)
bytes_in t = bytes_layer (out-Resource t)

-- the words of a list of integers, by its outermost layer
abbrev pub integers_layer : Resource-F Resource → Option (List ℕ)
integers_layer (Resource-F.Integers values) = Some values
integers_layer _ = None

-- the words of a list of integers
abbrev pub integers_in : Resource → Option (List ℕ)
integers_in t = integers_layer (out-Resource t)

-- the items of an array, by its outermost layer
abbrev pub items_layer : Resource-F Resource → Option (List Resource)
items_layer (Resource-F.Array items) = Some items
items_layer _ = None

-- the items of an array
abbrev pub items_in : Resource → Option (List Resource)
items_in t = items_layer (out-Resource t)

-- the entries of a table, by its outermost layer
abbrev pub entries_layer : Resource-F Resource → Option (List (List ℕ × Resource))
entries_layer (Resource-F.Table entries) = Some entries
entries_layer _ = None

-- the entries of a table, in its order
abbrev pub entries_in : Resource → Option (List (List ℕ × Resource))
entries_in t = entries_layer (out-Resource t)

-- the low 28 bits of an integer, by its outermost layer
abbrev pub index_layer : Resource-F Resource → Option ℕ
index_layer (Resource-F.Integer v) = Some (v % value_count)
index_layer _ = None

-- the low 28 bits of an integer, unsigned
abbrev pub index_in : Resource → Option ℕ
index_in t = index_layer (out-Resource t)

-- the low 28 bits of an integer, with their sign
abbrev pub signed_in : Resource → Option ℤ
signed_in t = option_map sign_extended (index_in t)
