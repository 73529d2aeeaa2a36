-- The first entry with a key, found and taken out.
use Rattle.std.proofs.Common.{◌≡◌, ℕ, suc, ◌<◌, Bool, true, false, List, [], ◌∷◌, ◌++◌, length, take, drop, get_or, drop-cons, Option, Some, cond, refl, sym, ap, ◌∙◌}
use Rattle.std.specs.Str.{bytes_eq}
use Rattle.std.proofs.lemmas.Option.{slice_get-get_or}
use Rattle.std.proofs.lemmas.Cmp.{nat_list_eq_equiv}
use Rattle.std.proofs.lemmas.Slice.Eq.{bytes_eq-Decides}
use Rattle.resb_tree.specs.declared.resource.Resource.{Resource, out-Resource}
use Rattle.resb_tree.specs.declared.resource.Resource.TheOpen.{Resource-F}
use Rattle.resb_tree.specs.declared.resource.Resource.TheVariants as r
use Rattle.resb_tree.specs.declared.resource.Resource.TheVariants.{rolls-Table}
use Rattle.resb_tree.specs.declared.resource.Resource.TheViews.{out-roll-Resource}
use Rattle.resb_tree.specs.Fields.{first_with, without_first, without_layer, without_field, field_layer, field_in, StandsFirst}

abbrev Entries : Type 0
Entries = List (List ℕ × Resource)

-- the entries before a place have other keys
pub record PassedOver (key : List ℕ) (es : Entries) (at : ℕ) : Type 0 where
  pub first : first_with key (drop at es) ≡ first_with key es
  pub others : take at es ++ without_first key (drop at es) ≡ without_first key es

-- the entry at a place is the first with the key
pub first_here : (key : List ℕ) (es : Entries) (at : ℕ) (d : List ℕ × Resource) → at < length es → bytes_eq (get_or es at d).0 key ≡ true → PassedOver key es at → StandsFirst key at es
first_here key es at d lt named passed =
    let found : first_with key (drop at es) ≡ Some (get_or es at d).1 = rw (drop-cons es at d lt, named) refl in
    let left : without_first key (drop at es) ≡ drop (suc at) es = rw (drop-cons es at d lt, named) refl in
    record {
      entry = get_or es at d;
      there = slice_get-get_or es at d lt;
      first = sym passed.first ∙ found;
      others = ap (λ (xs : Entries). take at es ++ xs) (sym left) ∙ passed.others;
    }

-- ---- the first entries with other keys

other_name : (other name key : List ℕ) → bytes_eq name key ≡ true → bytes_eq other key ≡ false → bytes_eq name other ≡ false
other_name other name key same apart = let e : name ≡ key = (bytes_eq-Decides name key).0 same in rw e (nat_list_eq_equiv.symm key other ∙ apart)

others_first : (key other : List ℕ) (es : Entries) → bytes_eq other key ≡ false → first_with other (without_first key es) ≡ first_with other es
others_first key other [] apart = refl
others_first key other (e ∷ es) apart = by (others_first key other es apart) (bytes_eq e.0 key) refl
  where
    by : first_with other (without_first key es) ≡ first_with other es → (b : Bool) → bytes_eq e.0 key ≡ b → first_with other (cond b es (e ∷ without_first key es)) ≡ first_with other (e ∷ es)
    by h true same = rw (other_name other e.0 key same apart) refl
    by h false same = ap (λ (found : Option Resource). cond (bytes_eq e.0 other) (Some e.1) found) h

layer_others : (key other : List ℕ) (t : Resource) (layer : Resource-F Resource) → out-Resource t ≡ layer → bytes_eq other key ≡ false → field_layer other (out-Resource (without_layer key t layer)) ≡ field_layer other layer
layer_others key other t (Resource-F.Table entries) e apart =
    let table : out-Resource (r.Table (without_first key entries)) ≡ Resource-F.Table (without_first key entries) = ap out-Resource (sym (rolls-Table (without_first key entries))) ∙ out-roll-Resource (Resource-F.Table (without_first key entries)) in
    rw table (others_first key other entries apart)
layer_others key other t (Resource-F.Text v) e apart = rw e refl
layer_others key other t (Resource-F.Bytes v) e apart = rw e refl
layer_others key other t (Resource-F.Integer v) e apart = rw e refl
layer_others key other t (Resource-F.Array v) e apart = rw e refl
layer_others key other t (Resource-F.Integers v) e apart = rw e refl

-- the fields with other keys stay
pub others_stay : (key other : List ℕ) (t : Resource) → bytes_eq other key ≡ false → field_in other (without_field key t) ≡ field_in other t
others_stay key other t apart = layer_others key other t (out-Resource t) refl apart
