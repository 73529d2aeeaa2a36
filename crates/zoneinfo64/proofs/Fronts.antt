-- A list that a loop reads: what was read, and then what is still read.
use Rattle.std.proofs.Common.{◌≡◌, List, [], ◌∷◌, ◌++◌, Option, Some, None, refl, ap, append_assoc}
use Rattle.resb_tree.specs.Options.{◌>>=◌}
use Rattle.zoneinfo64.specs.Inside.ListSteps.{with_front}

-- one more was read
pub front_grows : {A : Type 0} (front : List A) (x : A) (read : Option (List A)) → with_front front (read >>= λ xs. Some (x ∷ xs)) ≡ with_front (front ++ x ∷ []) read
front_grows front x None = refl
front_grows front x (Some xs) = ap Some (simp append_assoc)
