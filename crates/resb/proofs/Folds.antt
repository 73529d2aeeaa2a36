-- What folds over a tree give at each variant.
use Rattle.std.proofs.Common.{◌≡◌, ℕ, suc, List, [], ◌∷◌, length, refl, sym, ap, ◌∙◌, Bool, ◌||◌, ◌&&◌}
use Rattle.std.proofs.lemmas.List.{append-nil}
use Rattle.std.specs.Prelude.{map}
use Rattle.std.specs.List.{list_any, list_all}
use Rattle.resb_tree.specs.declared.resource.Resource.{Resource, fold-Resource, fold-roll-Resource}
use Rattle.resb_tree.specs.declared.resource.Resource.TheOpen.{Resource-F}
use Rattle.resb_tree.specs.declared.resource.Resource.TheVariants as r
use Rattle.resb_tree.specs.declared.resource.Resource.TheVariants.{rolls-Integer, rolls-Text, rolls-Bytes, rolls-Integers, rolls-Array, rolls-Table}
use Rattle.resb_tree.specs.Keys.{keys_in}
use Rattle.resb.specs.Entries.{values_in, told_values}
use Rattle.resb.specs.TreeKeys.{layer_keys, keys_met, entry_keys, item_keys}
use Rattle.resb.specs.LaidTrees.{item, text_laid, bytes_laid, integers_laid, array_laid, table_laid, layer_laid, laid}

pub fold-Text : {A : Type 0} (step : Resource-F A → A) (v : List ℕ) → fold-Resource A step (r.Text v) ≡ step (Resource-F.Text v)
fold-Text {A} step v = ap (fold-Resource A step) (sym (rolls-Text v)) ∙ fold-roll-Resource A step (Resource-F.Text v)

pub fold-Bytes : {A : Type 0} (step : Resource-F A → A) (v : List ℕ) → fold-Resource A step (r.Bytes v) ≡ step (Resource-F.Bytes v)
fold-Bytes {A} step v = ap (fold-Resource A step) (sym (rolls-Bytes v)) ∙ fold-roll-Resource A step (Resource-F.Bytes v)

pub fold-Integers : {A : Type 0} (step : Resource-F A → A) (v : List ℕ) → fold-Resource A step (r.Integers v) ≡ step (Resource-F.Integers v)
fold-Integers {A} step v = ap (fold-Resource A step) (sym (rolls-Integers v)) ∙ fold-roll-Resource A step (Resource-F.Integers v)

pub fold-Integer : {A : Type 0} (step : Resource-F A → A) (v : ℕ) → fold-Resource A step (r.Integer v) ≡ step (Resource-F.Integer v)
fold-Integer {A} step v = ap (fold-Resource A step) (sym (rolls-Integer v)) ∙ fold-roll-Resource A step (Resource-F.Integer v)

pub fold-Array : {A : Type 0} (step : Resource-F A → A) (v : List Resource) → fold-Resource A step (r.Array v) ≡ step (Resource-F.Array (map (fold-Resource A step) v))
fold-Array {A} step v = ap (fold-Resource A step) (sym (rolls-Array v)) ∙ fold-roll-Resource A step (Resource-F.Array v)

pub fold-Table : {A : Type 0} (step : Resource-F A → A) (v : List (List ℕ × Resource)) → fold-Resource A step (r.Table v) ≡ step (Resource-F.Table (told_values (fold-Resource A step) v))
fold-Table {A} step v = ap (fold-Resource A step) (sym (rolls-Table v)) ∙ fold-roll-Resource A step (Resource-F.Table v)

pub told-keys : {A : Type 0} (f : Resource → A) (es : List (List ℕ × Resource)) → map (λ (e : List ℕ × A). e.0) (told_values f es) ≡ keys_in es
told-keys f [] = refl
told-keys f (e ∷ es) = ap (λ ks. e.0 ∷ ks) (told-keys f es)

pub told-values : {A : Type 0} (f : Resource → A) (es : List (List ℕ × Resource)) → map (λ (e : List ℕ × A). e.1) (told_values f es) ≡ map f (values_in es)
told-values f [] = refl
told-values f (e ∷ es) = ap (λ (vs : List _). f e.1 ∷ vs) (told-values f es)

-- tests of what is told of children
pub any-map : {A : Type 0} (f : A → Bool) (xs : List A) → list_any (λ b. b) (map f xs) ≡ list_any f xs
any-map f [] = refl
any-map f (x ∷ xs) = ap (λ b. f x || b) (any-map f xs)

pub any-told : (f : Resource → Bool) (es : List (List ℕ × Resource)) → list_any (λ (e : List ℕ × Bool). e.1) (told_values f es) ≡ list_any f (values_in es)
any-told f [] = refl
any-told f (e ∷ es) = ap (λ b. f e.1 || b) (any-told f es)

pub all-told : (f : Resource → Bool) (es : List (List ℕ × Resource)) → list_all (λ (e : List ℕ × Bool). e.1) (told_values f es) ≡ list_all f (values_in es)
all-told f [] = refl
all-told f (e ∷ es) = ap (λ b. f e.1 && b) (all-told f es)

pub length-told : {A : Type 0} (f : Resource → A) (es : List (List ℕ × Resource)) → length (told_values f es) ≡ length es
length-told f [] = refl
length-told f (e ∷ es) = ap suc (length-told f es)

-- what a fold gives, by the layer
pub ruleset layers = (fold-Text, fold-Bytes, fold-Integers, fold-Integer, fold-Array, fold-Table, told-keys, told-values, any-map, any-told)

-- ---- keys

pub keys_met-Text : (v : List ℕ) → keys_met (r.Text v) ≡ []
unfolding keys_met
keys_met-Text v = fold-Text layer_keys v

pub keys_met-Bytes : (v : List ℕ) → keys_met (r.Bytes v) ≡ []
unfolding keys_met
keys_met-Bytes v = fold-Bytes layer_keys v

pub keys_met-Integers : (v : List ℕ) → keys_met (r.Integers v) ≡ []
unfolding keys_met
keys_met-Integers v = fold-Integers layer_keys v

pub keys_met-Integer : (v : ℕ) → keys_met (r.Integer v) ≡ []
unfolding keys_met
keys_met-Integer v = fold-Integer layer_keys v

pub keys_met-Array : (v : List Resource) → keys_met (r.Array v) ≡ item_keys (map keys_met v)
unfolding keys_met
keys_met-Array v = fold-Array layer_keys v

pub keys_met-Table : (v : List (List ℕ × Resource)) → keys_met (r.Table v) ≡ entry_keys (told_values keys_met v)
unfolding keys_met
keys_met-Table v = fold-Table layer_keys v

pub ruleset meeting = (keys_met-Text, keys_met-Bytes, keys_met-Integers, keys_met-Integer, keys_met-Array, keys_met-Table, append-nil)

-- ---- what is laid

pub laid-Text : (v : List ℕ) → laid (r.Text v) ≡ text_laid v
unfolding laid
laid-Text v = fold-Text layer_laid v

pub laid-Bytes : (v : List ℕ) → laid (r.Bytes v) ≡ bytes_laid v
unfolding laid
laid-Bytes v = fold-Bytes layer_laid v

pub laid-Table : (v : List (List ℕ × Resource)) → laid (r.Table v) ≡ table_laid (told_values laid v)
unfolding laid
laid-Table v = fold-Table layer_laid v

pub laid-Integer : (v : ℕ) → laid (r.Integer v) ≡ (λ places at. ([], item 7 v))
unfolding laid
laid-Integer v = fold-Integer layer_laid v

pub laid-Array : (v : List Resource) → laid (r.Array v) ≡ array_laid (map laid v)
unfolding laid
laid-Array v = fold-Array layer_laid v

pub laid-Integers : (v : List ℕ) → laid (r.Integers v) ≡ integers_laid v
unfolding laid
laid-Integers v = fold-Integers layer_laid v
