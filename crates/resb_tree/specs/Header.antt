-- The header and the index of a bundle (docs/FORMATS.md, "Header and index").
use Rattle.std.specs.Prelude.{ℕ, ◌+◌, ◌*◌, ◌/◌, ◌%◌, Bool, ◌&&◌, List, length, drop, slice_index, Option, Some, None, if◌then◌else◌, ◌==◌, nat_le}
use Rattle.resb_tree.specs.Words.{byte_in}
use Rattle.resb_tree.specs.Options.{◌>>=◌}
use Rattle.resb_tree.specs.Bodies.{Body, body}
use Rattle.resb_tree.specs.Tree.{denoted}
use Rattle.resb_tree.specs.declared.resource.Resource.{Resource}

-- the header's size in bytes
abbrev pub header_size : List ℕ → ℕ
header_size words = byte_in words 0 + 256 * byte_in words 1

-- a header of format 2, low bytes first, at the front of at most 1,048,576 words
abbrev pub is_header : List ℕ → Bool
is_header words =
    nat_le (length words) 1048576
    && nat_le 24 (header_size words) && (header_size words % 4 == 0) && nat_le (header_size words) (4 * length words)
    && (byte_in words 2 == 0xDA) && (byte_in words 3 == 0x27)
    && (byte_in words 8 == 0) && (byte_in words 9 == 0) && (byte_in words 10 == 2)
    && (byte_in words 12 == 0x52) && (byte_in words 13 == 0x65) && (byte_in words 14 == 0x73) && (byte_in words 15 == 0x42)
    && (byte_in words 16 == 2)

-- the index follows the root item; its numbers are the ends of the keys, of the 16-bit area, of the resources and of the bundle
abbrev pub index : List ℕ → ℕ → ℕ
index words i = slice_index words (1 + i)

-- seven numbers at least; the ends in order, within the words; and no keys of another bundle
abbrev pub is_index : List ℕ → Bool
is_index words =
    let count = index words 0 % 256 in
    nat_le 7 count && nat_le (1 + count) (index words 1)
    && nat_le (index words 1) (index words 6) && nat_le (index words 6) (index words 2)
    && nat_le (index words 2) (index words 3) && nat_le (index words 3) (length words)
    && (index words 5 / 2 % 4 == 0)

-- the words behind the header, with their ends
unfoldable pub body_of : List ℕ → Option Body
body_of words =
    let rest = drop (header_size words / 4) words in
    if is_header words && is_index rest then Some (body rest (index rest 1) (index rest 6) (index rest 3)) else None

-- the tree that the words of a bundle denote; its weight is at most 8 for each word
unfoldable pub tree_of : List ℕ → Option Resource
tree_of words = body_of words >>= λ b. denoted b (8 * length words)
