-- How much of a tree there is (docs/FORMATS.md, "Weight").
use Rattle.std.specs.Prelude.{ℕ, ◌+◌, List, length, sum, sum_by}
use Rattle.resb_tree.specs.declared.resource.Resource.{Resource, fold-Resource}
use Rattle.resb_tree.specs.declared.resource.Resource.TheOpen.{Resource-F}

-- the most that a tree weighs: 8 for each word of the greatest bundle, of 1,048,576 words
abbrev pub most_weight : ℕ
most_weight = 8388608

-- a tree's weight by the weights of its children; a table's has the bytes of its keys too
abbrev pub layer_weight : Resource-F ℕ → ℕ
layer_weight (Resource-F.Text units) = 1 + length units
layer_weight (Resource-F.Bytes bytes) = 1 + length bytes
layer_weight (Resource-F.Table entries) = 1 + sum_by (λ (e : List ℕ × ℕ). length e.0 + e.1) entries
layer_weight (Resource-F.Integer v) = 1
layer_weight (Resource-F.Array items) = 1 + sum items
layer_weight (Resource-F.Integers values) = 1 + length values

-- one for each resource, and its units, bytes, integers or key bytes
unfoldable pub weight : Resource → ℕ
weight = fold-Resource ℕ layer_weight
