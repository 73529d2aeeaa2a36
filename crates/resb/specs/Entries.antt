-- The values of a table's entries, and what is told of them (docs/FORMATS.md, "The writer").
use Rattle.std.specs.Prelude.{ℕ, List, map}
use Rattle.resb_tree.specs.declared.resource.Resource.{Resource}

-- the values of entries
abbrev pub values_in : {A : Type 0} → List (List ℕ × A) → List A
values_in entries = map (λ e. e.1) entries

-- entries with what is told of their values
abbrev pub told_values : {A : Type 0} → (Resource → A) → List (List ℕ × Resource) → List (List ℕ × A)
told_values f entries = map (λ e. (e.0, f e.1)) entries
