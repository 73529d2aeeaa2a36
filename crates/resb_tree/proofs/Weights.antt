-- Equations of weight.
use Rattle.std.proofs.Common.{◌≡◌, ℕ, ◌+◌, List, length, sym, ap, ◌∙◌}
use Rattle.std.specs.Prelude.{sum_by}
use Rattle.std.proofs.lemmas.List.Folds.{fold-map}
use Rattle.std.proofs.lemmas.List.Sums.{sum-map}
use Rattle.resb_tree.specs.declared.resource.Resource.{Resource, fold-roll-Resource}
use Rattle.resb_tree.specs.declared.resource.Resource.TheOpen.{Resource-F}
use Rattle.resb_tree.specs.declared.resource.Resource.TheVariants as r
use Rattle.resb_tree.specs.declared.resource.Resource.TheVariants.{rolls-Integer, rolls-Text, rolls-Bytes, rolls-Integers, rolls-Array, rolls-Table}
use Rattle.resb_tree.specs.Weight.{layer_weight, weight}

-- the weight of an entry: its key's bytes, and the weight of its value
abbrev pub entry_weight : List ℕ × Resource → ℕ
entry_weight e = length e.0 + weight e.1

pub weight-Bytes : (v : List ℕ) → weight (r.Bytes v) ≡ 1 + length v
unfolding weight
weight-Bytes v = ap weight (sym (rolls-Bytes v)) ∙ fold-roll-Resource ℕ layer_weight (Resource-F.Bytes v)

pub weight-Integers : (v : List ℕ) → weight (r.Integers v) ≡ 1 + length v
unfolding weight
weight-Integers v = ap weight (sym (rolls-Integers v)) ∙ fold-roll-Resource ℕ layer_weight (Resource-F.Integers v)

pub weight-Integer : (v : ℕ) → weight (r.Integer v) ≡ 1
unfolding weight
weight-Integer v = ap weight (sym (rolls-Integer v)) ∙ fold-roll-Resource ℕ layer_weight (Resource-F.Integer v)

pub weight-Text : (v : List ℕ) → weight (r.Text v) ≡ 1 + length v
unfolding weight
weight-Text v = ap weight (sym (rolls-Text v)) ∙ fold-roll-Resource ℕ layer_weight (Resource-F.Text v)

pub weight-Array : (xs : List Resource) → weight (r.Array xs) ≡ 1 + sum_by weight xs
unfolding weight
weight-Array xs = ap weight (sym (rolls-Array xs)) ∙ fold-roll-Resource ℕ layer_weight (Resource-F.Array xs) ∙ ap (λ n. 1 + n) (sum-map weight xs)

pub weight-Table : (xs : List (List ℕ × Resource)) → weight (r.Table xs) ≡ 1 + sum_by entry_weight xs
unfolding weight
weight-Table xs = ap weight (sym (rolls-Table xs)) ∙ fold-roll-Resource ℕ layer_weight (Resource-F.Table xs) ∙ ap (λ n. 1 + n) (fold-map (λ a e. a + (length e.0 + e.1)) (λ e. (e.0, weight e.1)) 0 xs)

pub ruleset weighing = (weight-Integer, weight-Text, weight-Bytes, weight-Integers, weight-Array, weight-Table)
