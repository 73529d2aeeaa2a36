-- Lists gone through one after the other.
use Rattle.std.proofs.Common.{◌≡◌, ℕ, ◌+◌, ◌<◌, ◌≤◌, List, [], ◌∷◌, length, drop, get_or, refl, ◌∙◌, arith}
use Rattle.std.proofs.lemmas.List.{drop_more, length-map}
use Rattle.resb_tree.specs.declared.resource.Resource.{Resource}
use Rattle.resb.specs.Entries.{values_in}

pub item_cons : {A : Type 0} (xs : List A) (i : ℕ) (x : A) → i < length xs → x ≡ get_or xs i x → drop i xs ≡ x ∷ drop (i + 1) xs
item_cons xs i x lt is = drop_more xs i x lt ∙ rw (← is) refl

pub length-values : (es : List (List ℕ × Resource)) → length (values_in es) ≡ length es
length-values es = length-map es (λ (e : List ℕ × Resource). e.1)

pub one_item : (xs : List ℕ) → 1 ≤ length xs → length xs < 2 → xs ≡ get_or xs 0 0 ∷ []
one_item [] h g = absurd (omega arith)
one_item (x ∷ []) h g = refl
one_item (x ∷ y ∷ xs) h g = absurd (omega arith)
