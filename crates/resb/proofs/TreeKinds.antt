-- Trees by kind: leaves, and parents of others.
use Rattle.std.proofs.lemmas.List.Folds.{list_all-map, list_all-append}
use Rattle.std.proofs.Common.{◌≡◌, ℕ, suc, ◌+◌, ◌/◌, ◌<◌, ◌≤◌, Bool, true, false, not, ◌&&◌, ◌||◌, List, [], ◌∷◌, ◌++◌, length, max, append_assoc, refl, ap, ◌∙◌, arith, sym}
use Rattle.std.proofs.lemmas.Bool.{and_parts, and_from}
use Rattle.std.proofs.lemmas.List.{length-append, length-map}
use Rattle.std.proofs.lemmas.List.Sums.{sum-map, sum_by-cons}
use Rattle.std.specs.Prelude.{map, nat_le, sum_by}
use Rattle.std.specs.List.{list_any, list_all}
use Rattle.resb_tree.specs.declared.resource.Resource.{Resource}
use Rattle.resb_tree.specs.declared.resource.Resource.TheVariants as r
use Rattle.resb_tree.specs.Bodies.{Body}
use Rattle.resb_tree.specs.Keys.{distinct, keys_in}
use Rattle.resb_tree.specs.Words.{value_count}
use Rattle.resb_tree.specs.Weight.{layer_weight, weight}
use Rattle.resb.specs.Entries.{values_in, told_values}
use Rattle.resb.specs.Inside.Laying.{no_places}
use Rattle.resb.specs.TreeKeys.{keys_met, entry_keys, item_keys}
use Rattle.resb.specs.LaidTrees.{Laid, laid, lay_all, text_laid, bytes_laid, integers_laid}
use Rattle.std.specs.Simd.Lanes.{all_below}
use Rattle.resb.specs.Laws.{layer_typed, has_typed_parts}
use Rattle.resb.specs.Packing.{pack_units}
use Rattle.resb.specs.WrittenFiles.{layer_most, most_entries, most_of}
use Rattle.resb.specs.BadKeys.{layer_bad, has_bad_key, all_keys, is_key}
use Rattle.resb.specs.Writing.{layer_depth, depth, layer_wide, has_wide_integer}
use Rattle.resb.proofs.Cases.{by_variant}
use Rattle.resb.proofs.Folds.{fold-Text, fold-Bytes, fold-Integers, fold-Integer, fold-Array, fold-Table, told-keys, told-values, length-told, keys_met-Text, keys_met-Bytes, keys_met-Integers, keys_met-Integer, keys_met-Array, keys_met-Table, laid-Text, laid-Bytes, laid-Integers, laid-Integer, laid-Array, laid-Table, any-map, any-told, all-told}
use Rattle.resb.proofs.PackedWords.{length-pack_units}
use Rattle.resb.proofs.PoolReads.{Each, each_append, both_each, Placed}

-- ---- leaves

-- a resource of no others: so many parts of its own, one level, no keys
pub record IsLeaf (t : Resource) (parts : ℕ) (wide typed : Bool) : Type 0 where
  pub keys : keys_met t ≡ []
  pub entries : most_entries t ≡ 0
  pub weighs : weight t ≡ 1 + parts
  pub deep : depth t ≡ 1
  pub good : has_bad_key t ≡ false
  pub wide_is : has_wide_integer t ≡ wide
  pub typed_is : has_typed_parts t ≡ typed
  pub same : (places : List ℕ → ℕ) (at : ℕ) → laid t places at ≡ laid t no_places at

text_same : (v : List ℕ) (places : List ℕ → ℕ) (at : ℕ) → text_laid v places at ≡ text_laid v no_places at
text_same [] places at = refl
text_same (a ∷ v) places at = refl

bytes_same : (v : List ℕ) (places : List ℕ → ℕ) (at : ℕ) → bytes_laid v places at ≡ bytes_laid v no_places at
bytes_same [] places at = refl
bytes_same (a ∷ v) places at = refl

integers_same : (v : List ℕ) (places : List ℕ → ℕ) (at : ℕ) → integers_laid v places at ≡ integers_laid v no_places at
integers_same [] places at = refl
integers_same (a ∷ v) places at = refl

pub leaf-Text : (v : List ℕ) → IsLeaf (r.Text v) (length v) false (all_below 65536 v)
unfolding most_entries weight depth has_bad_key has_wide_integer has_typed_parts
leaf-Text v = record {
  keys = keys_met-Text v;
  entries = fold-Text layer_most v;
  weighs = fold-Text layer_weight v;
  deep = fold-Text layer_depth v;
  good = fold-Text layer_bad v;
  wide_is = fold-Text layer_wide v;
  typed_is = fold-Text layer_typed v;
  same = λ places at. rw (laid-Text v) (text_same v places at);
}

pub leaf-Bytes : (v : List ℕ) → IsLeaf (r.Bytes v) (length v) false (all_below 256 v)
unfolding most_entries weight depth has_bad_key has_wide_integer has_typed_parts
leaf-Bytes v = record {
  keys = keys_met-Bytes v;
  entries = fold-Bytes layer_most v;
  weighs = fold-Bytes layer_weight v;
  deep = fold-Bytes layer_depth v;
  good = fold-Bytes layer_bad v;
  wide_is = fold-Bytes layer_wide v;
  typed_is = fold-Bytes layer_typed v;
  same = λ places at. rw (laid-Bytes v) (bytes_same v places at);
}

pub leaf-Integers : (v : List ℕ) → IsLeaf (r.Integers v) (length v) false true
unfolding most_entries weight depth has_bad_key has_wide_integer has_typed_parts
leaf-Integers v = record {
  keys = keys_met-Integers v;
  entries = fold-Integers layer_most v;
  weighs = fold-Integers layer_weight v;
  deep = fold-Integers layer_depth v;
  good = fold-Integers layer_bad v;
  wide_is = fold-Integers layer_wide v;
  typed_is = fold-Integers layer_typed v;
  same = λ places at. rw (laid-Integers v) (integers_same v places at);
}

pub leaf-Integer : (v : ℕ) → IsLeaf (r.Integer v) 0 (nat_le value_count v) true
unfolding most_entries weight depth has_bad_key has_wide_integer has_typed_parts
leaf-Integer v = record {
  keys = keys_met-Integer v;
  entries = fold-Integer layer_most v;
  weighs = fold-Integer layer_weight v;
  deep = fold-Integer layer_depth v;
  good = fold-Integer layer_bad v;
  wide_is = fold-Integer layer_wide v;
  typed_is = fold-Integer layer_typed v;
  same = λ places at. rw (laid-Integer v) refl;
}

-- ---- parents

pub most_both : {A : Type 0} (f : A → ℕ) (xs ys : List A) → most_of (map f (xs ++ ys)) ≡ max (most_of (map f xs)) (most_of (map f ys))
most_both f [] ys = omega arith
most_both f (x ∷ xs) ys = omega (arith, most_both f xs ys)

pub length-lay_all : (xs : List Resource) (places : List ℕ → ℕ) (at : ℕ) → length (lay_all (map laid xs) places at).1 ≡ length xs
length-lay_all [] places at = refl
length-lay_all (x ∷ xs) places at = ap suc (length-lay_all xs places (at + length (laid x places at).0))

-- a parent's words and its item: the words of these trees, words of its own, their items
abbrev pub LaidOver : Resource → List Resource → (List ℕ → ℕ) → List ℕ → ℕ → Type 0
LaidOver t xs places own first = (at : ℕ) → laid t places at ≡ (let inner = lay_all (map laid xs) places at in (inner.0 ++ (own ++ inner.1), first + (at + length inner.0)))

pub over_length : (t : Resource) (xs : List Resource) (places : List ℕ → ℕ) (own : List ℕ) (first at : ℕ) → LaidOver t xs places own first → length (laid t places at).0 ≡ length (lay_all (map laid xs) places at).0 + (length own + length xs)
over_length t xs places own first at l =
    let inner = lay_all (map laid xs) places at in
    omega (arith, ap (λ (w : List ℕ × ℕ). length w.0) (l at), length-append inner.0 (own ++ inner.1), length-append own inner.1, length-lay_all xs places at)

pub at_place : {f g : Laid} → f ≡ g → (places : List ℕ → ℕ) (at : ℕ) → f places at ≡ g places at
at_place e places at = ap (λ (h : Laid). h places at) e

pub array_over : (xs : List Resource) (places : List ℕ → ℕ) → 0 < length xs → LaidOver (r.Array xs) xs places (length xs ∷ []) 2147483648
array_over [] places h = absurd (omega arith)
array_over (x ∷ xs) places h = λ at. at_place (laid-Array (x ∷ xs)) places at ∙ rw (length-lay_all (x ∷ xs) places at) refl

pub places_told : (es : List (List ℕ × Resource)) (places : List ℕ → ℕ) → map (λ (x : List ℕ × Laid). places x.0) (told_values laid es) ≡ map places (keys_in es)
places_told [] places = refl
places_told (e ∷ es) places = ap (λ ks. places e.0 ∷ ks) (places_told es places)

pub table_over : (es : List (List ℕ × Resource)) (places : List ℕ → ℕ) → 0 < length es → LaidOver (r.Table es) (values_in es) places (pack_units (length es ∷ map places (keys_in es))) 536870912
table_over [] places h = absurd (omega arith)
table_over (e ∷ es) places h = λ at.
    at_place (laid-Table (e ∷ es)) places at ∙ rw (told-values laid es, places_told es places, length-told laid es) (simp append_assoc)

-- how many words a table's count and places take
pub length-own : (es : List (List ℕ × Resource)) (places : List ℕ → ℕ) → length (pack_units (length es ∷ map places (keys_in es))) ≡ (length es + 2) / 2
length-own es places = omega (arith, length-pack_units (length es ∷ map places (keys_in es)), length-map (keys_in es) places, length-map es (λ (e : List ℕ × Resource). e.0))

-- a resource of these trees, under these names where it is a table
pub record IsParent (t : Resource) (xs : List Resource) (names : List (List ℕ)) : Type 0 where
  pub near : (places : List ℕ → ℕ) → most_of (map places (keys_met t)) ≡ max (most_of (map places names)) (most_of (map places (item_keys (map keys_met xs))))
  pub entries : most_entries t ≡ max (length names) (most_of (map most_entries xs))
  pub weighs : weight t ≡ 1 + sum_by length names + sum_by weight xs
  pub deep : depth t ≡ 1 + most_of (map depth xs)
  pub bad : has_bad_key t ≡ (not (all_keys names && distinct names) || list_any has_bad_key xs)
  pub wide : has_wide_integer t ≡ list_any has_wide_integer xs
  pub typed : has_typed_parts t ≡ list_all has_typed_parts xs
  pub inner : (places : List ℕ → ℕ) (at : ℕ) → length (lay_all (map laid xs) places at).0 ≤ length (laid t places at).0
  pub good : all_keys names ≡ true → all_keys (item_keys (map keys_met xs)) ≡ true → all_keys (keys_met t) ≡ true
  pub placed : (b : Body) (places : List ℕ → ℕ) → Each (Placed b places) (keys_met t) → Each (Placed b places) names × Each (Placed b places) (item_keys (map keys_met xs))

array_inner : (xs : List Resource) (places : List ℕ → ℕ) (at : ℕ) → length (lay_all (map laid xs) places at).0 ≤ length (laid (r.Array xs) places at).0
array_inner [] places at = omega arith
array_inner (x ∷ xs) places at = omega (arith, over_length (r.Array (x ∷ xs)) (x ∷ xs) places (length (x ∷ xs) ∷ []) 2147483648 at (array_over (x ∷ xs) places (omega arith)))

pub parent-Array : (xs : List Resource) → IsParent (r.Array xs) xs []
unfolding most_entries weight depth has_bad_key has_wide_integer has_typed_parts
parent-Array xs = record {
  near = λ places. rw (keys_met-Array xs) (omega arith);
  entries = omega (arith, fold-Array layer_most xs);
  weighs = omega (arith, fold-Array layer_weight xs, sum-map weight xs);
  deep = fold-Array layer_depth xs;
  bad = fold-Array layer_bad xs ∙ any-map has_bad_key xs;
  wide = fold-Array layer_wide xs ∙ any-map has_wide_integer xs;
  typed = fold-Array layer_typed xs ∙ list_all-map (λ b. b) has_typed_parts xs;
  inner = array_inner xs;
  good = λ own all. rw (keys_met-Array xs) all;
  placed = λ b places h. (tt, rw (keys_met-Array xs) at h);
}

entries_near : (es : List (List ℕ × Resource)) (places : List ℕ → ℕ) → most_of (map places (entry_keys (told_values keys_met es))) ≡ max (most_of (map places (keys_in es))) (most_of (map places (item_keys (map keys_met (values_in es)))))
entries_near [] places = refl
entries_near (e ∷ es) places = omega (arith, entries_near es places, most_both places (keys_met e.1) (entry_keys (told_values keys_met es)), most_both places (keys_met e.1) (item_keys (map keys_met (values_in es))))

entries_weigh : (es : List (List ℕ × Resource)) → sum_by (λ (e : List ℕ × ℕ). length e.0 + e.1) (told_values weight es) ≡ sum_by length (keys_in es) + sum_by weight (values_in es)
entries_weigh [] = refl
entries_weigh (e ∷ es) =
    let told = sum_by-cons (λ (e : List ℕ × ℕ). length e.0 + e.1) (e.0, weight e.1) (told_values weight es) in
    omega (arith, entries_weigh es, told, sum_by-cons length e.0 (keys_in es), sum_by-cons weight e.1 (values_in es))

table_inner : (es : List (List ℕ × Resource)) (places : List ℕ → ℕ) (at : ℕ) → length (lay_all (map laid (values_in es)) places at).0 ≤ length (laid (r.Table es) places at).0
table_inner [] places at = omega arith
table_inner (e ∷ es) places at = omega (arith, over_length (r.Table (e ∷ es)) (values_in (e ∷ es)) places (pack_units (length (e ∷ es) ∷ map places (keys_in (e ∷ es)))) 536870912 at (table_over (e ∷ es) places (omega arith)))

-- a test of two lists one behind the other
pub all_append : {A : Type 0} (f : A → Bool) (xs ys : List A) → list_all f xs ≡ true → list_all f ys ≡ true → list_all f (xs ++ ys) ≡ true
all_append f xs ys h g = list_all-append f xs ys ∙ and_from _ _ h g

pub all_parts : {A : Type 0} (f : A → Bool) (xs ys : List A) → list_all f (xs ++ ys) ≡ true → (list_all f xs ≡ true) × (list_all f ys ≡ true)
all_parts f xs ys h = and_parts _ _ (sym (list_all-append f xs ys) ∙ h)

entries_good : (es : List (List ℕ × Resource)) → all_keys (keys_in es) ≡ true → all_keys (item_keys (map keys_met (values_in es))) ≡ true → all_keys (entry_keys (told_values keys_met es)) ≡ true
entries_good [] h g = refl
entries_good (e ∷ es) h g =
    let both = and_parts _ _ h in
    let parts = all_parts is_key (keys_met e.1) (item_keys (map keys_met (values_in es))) g in
    and_from _ _ both.0 (all_append is_key (keys_met e.1) (entry_keys (told_values keys_met es)) parts.0 (entries_good es both.1 parts.1))

entries_placed : (P : List ℕ → Type 0) (es : List (List ℕ × Resource)) → Each P (entry_keys (told_values keys_met es)) → Each P (keys_in es) × Each P (item_keys (map keys_met (values_in es)))
entries_placed P [] h = (tt, tt)
entries_placed P (e ∷ es) h =
    let parts = each_append P (keys_met e.1) (entry_keys (told_values keys_met es)) h.1 in
    let rest = entries_placed P es parts.1 in
    ((h.0, rest.0), both_each P (keys_met e.1) (item_keys (map keys_met (values_in es))) parts.0 rest.1)

pub parent-Table : (es : List (List ℕ × Resource)) → IsParent (r.Table es) (values_in es) (keys_in es)
unfolding most_entries weight depth has_bad_key has_wide_integer has_typed_parts
parent-Table es = record {
  near = λ places. rw (keys_met-Table es) (entries_near es places);
  entries = fold-Table layer_most es ∙ rw (length-told most_entries es, told-values most_entries es, ← length-map es (λ (e : List ℕ × Resource). e.0)) refl;
  weighs = omega (arith, fold-Table layer_weight es, entries_weigh es);
  deep = fold-Table layer_depth es ∙ rw (told-values depth es) refl;
  bad = fold-Table layer_bad es ∙ rw (told-keys has_bad_key es, any-told has_bad_key es) refl;
  wide = fold-Table layer_wide es ∙ any-told has_wide_integer es;
  typed = fold-Table layer_typed es ∙ all-told has_typed_parts es;
  inner = table_inner es;
  good = λ own all. rw (keys_met-Table es) (entries_good es own all);
  placed = λ b places h. entries_placed (Placed b places) es (rw (keys_met-Table es) at h);
}

-- ---- all trees

-- what holds of leaves, and of parents, holds of each tree
pub by_kind : (P : Resource → Type 0) → ((t : Resource) (parts : ℕ) (wide typed : Bool) → IsLeaf t parts wide typed → P t) → ((t : Resource) (xs : List Resource) (names : List (List ℕ)) → IsParent t xs names → P t) → (t : Resource) → P t
by_kind P leaf parent = by_variant P
    (λ v. leaf _ _ _ _ (leaf-Text v)) (λ v. leaf _ _ _ _ (leaf-Bytes v)) (λ v. parent _ _ _ (parent-Table v))
    (λ v. leaf _ _ _ _ (leaf-Integer v)) (λ v. parent _ _ _ (parent-Array v)) (λ v. leaf _ _ _ _ (leaf-Integers v))

pub deep : (t : Resource) → 0 < depth t
deep = by_kind (λ t. 0 < depth t) (λ t parts wide typed l. omega (arith, l.deep)) (λ t xs names p. omega (arith, p.deep))
