-- The keys of a tree without a bad key are good.
use Rattle.std.proofs.Common.{◌≡◌, ℕ, zero, suc, ◌≤◌, true, false, List, [], ◌∷◌, refl, ap, sym, ◌∙◌, arith}
use Rattle.std.specs.Prelude.{map}
use Rattle.std.specs.List.{list_any}
use Rattle.std.proofs.lemmas.Bool.{and_parts, or_parts, not-false}
use Rattle.resb_tree.specs.declared.resource.Resource.{Resource}
use Rattle.resb.specs.TreeKeys.{item_keys, keys_met}
use Rattle.resb.specs.WrittenFiles.{most_of}
use Rattle.resb.specs.BadKeys.{all_keys, has_bad_key, is_key}
use Rattle.resb.specs.Writing.{depth}
use Rattle.resb.proofs.TreeKinds.{all_append, by_kind, deep}

abbrev Good : ℕ → Type 0
Good levels = (t : Resource) → depth t ≤ levels → has_bad_key t ≡ false → all_keys (keys_met t) ≡ true

items_good : (levels : ℕ) → Good levels → (xs : List Resource) → most_of (map depth xs) ≤ levels → list_any has_bad_key xs ≡ false → all_keys (item_keys (map keys_met xs)) ≡ true
items_good levels good [] d h = refl
items_good levels good (x ∷ xs) d h =
    let bad = or_parts _ _ h in
    all_append is_key (keys_met x) (item_keys (map keys_met xs)) (good x (omega (arith, d)) bad.0) (items_good levels good xs (omega (arith, d)) bad.1)

pub keys_good : (levels : ℕ) → Good levels
keys_good zero t = λ d h. absurd (let p = deep t in omega (arith, p, d))
keys_good (suc levels) t = by_kind (λ t. depth t ≤ suc levels → has_bad_key t ≡ false → all_keys (keys_met t) ≡ true)
    (λ t parts wide typed l d h. ap all_keys l.keys)
    (λ t xs names p d h.
    let bad = or_parts _ _ (sym p.bad ∙ h) in
    let own = and_parts _ _ (not-false _ bad.0) in
    p.good own.0 (items_good levels (keys_good levels) xs (omega (arith, p.deep, d)) bad.1))
    t
