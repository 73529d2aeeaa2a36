-- Trees in a row that are laid one after the other: those in front, those behind, and one more.
use Rattle.std.proofs.lemmas.List.Folds.{list_any-append}
use Rattle.std.proofs.Common.{◌≡◌, ℕ, ◌+◌, ◌<◌, ◌≤◌, Bool, true, false, List, [], ◌∷◌, ◌++◌, length, refl, sym, max, append_assoc, arith, ◌∙◌}
use Rattle.std.proofs.lemmas.List.{length-append, append-nil, map-append}
use Rattle.std.proofs.lemmas.Bool.{or_parts, or_from, lt-leb}
use Rattle.std.proofs.lemmas.List.Sums.{sum_by-append}
use Rattle.std.specs.Prelude.{map, sum_by}
use Rattle.std.specs.List.{list_any}
use Rattle.resb_tree.specs.declared.resource.Resource.{Resource}
use Rattle.resb_tree.specs.Words.{value_count}
use Rattle.resb_tree.specs.Weight.{weight}
use Rattle.resb.specs.Laws.{has_typed_parts}
use Rattle.resb.specs.Plan.{FitsAll}
use Rattle.resb.specs.Pool.{bare, place_of}
use Rattle.resb.specs.LaidTrees.{laid, lay_all}
use Rattle.resb.specs.WrittenFiles.{most_of, most_entries}
use Rattle.resb.specs.Writing.{depth}
use Rattle.resb.specs.BadKeys.{has_bad_key}
use Rattle.resb.specs.Inside.Laying.{IsLaid, Fits}
use Rattle.resb.specs.DraftRows.{Holds, Row}
use Rattle.resb.proofs.LaidWords.{leaf_fits, fits-first, fits-rest, fits_none, fits_cons}
use Rattle.resb.proofs.TreeKinds.{IsLeaf, leaf-Integer, most_both, at_place, all_append, all_parts}
use Rattle.resb.proofs.Folds.{laid-Integer}
use Rattle.resb_tree.specs.declared.resource.Resource.TheVariants as r
use Rattle.resb.specs.declared.draft.Draft.{Draft}
use Rattle.resb.specs.Plan.{most_words}

-- ---- two rows, one behind the other

behind_both : (at : ℕ) (w v : List ℕ) → at + length (w ++ v) ≡ at + length w + length v
behind_both at w v = omega (arith, length-append w v)

pub both_laid : (xs ys : List Resource) (places : List ℕ → ℕ) (at : ℕ) → lay_all (map laid (xs ++ ys)) places at ≡ (let front = lay_all (map laid xs) places at in let back = lay_all (map laid ys) places (at + length front.0) in (front.0 ++ back.0, front.1 ++ back.1))
both_laid [] ys places at = let e : at + 0 ≡ at = omega arith in rw e refl
both_laid (x ∷ xs) ys places at =
    let w = (laid x places at).0 in
    let v = (lay_all (map laid xs) places (at + length w)).0 in
    rw (behind_both at w v, both_laid xs ys places (at + length w)) (simp append_assoc)

pub fits_both : (xs ys : List Resource) (places : List ℕ → ℕ) (at : ℕ) → FitsAll xs places at → FitsAll ys places (at + length (lay_all (map laid xs) places at).0) → FitsAll (xs ++ ys) places at
fits_both [] ys places at f g = let e : at + 0 ≡ at = omega arith in rw e at g
fits_both (x ∷ xs) ys places at f g =
    let w = (laid x places at).0 in
    let v = (lay_all (map laid xs) places (at + length w)).0 in
    fits_cons x (xs ++ ys) places at (fits-first x xs places at f) (fits_both xs ys places (at + length w) (fits-rest x xs places at f) (rw (behind_both at w v) at g))

pub fits_front : (xs ys : List Resource) (places : List ℕ → ℕ) (at : ℕ) → FitsAll (xs ++ ys) places at → FitsAll xs places at
fits_front [] ys places at f = fits_none places at (omega (arith, f.room))
fits_front (x ∷ xs) ys places at f = fits_cons x xs places at (fits-first x (xs ++ ys) places at f) (fits_front xs ys places (at + length (laid x places at).0) (fits-rest x (xs ++ ys) places at f))

pub fits_back : (xs ys : List Resource) (places : List ℕ → ℕ) (at : ℕ) → FitsAll (xs ++ ys) places at → FitsAll ys places (at + length (lay_all (map laid xs) places at).0)
fits_back [] ys places at f = let e : at + 0 ≡ at = omega arith in rw e f
fits_back (x ∷ xs) ys places at f =
    let w = (laid x places at).0 in
    let v = (lay_all (map laid xs) places (at + length w)).0 in
    rw (behind_both at w v) (fits_back xs ys places (at + length w) (fits-rest x (xs ++ ys) places at f))

none_both : (f : Resource → Bool) (xs ys : List Resource) → list_any f xs ≡ false → list_any f ys ≡ false → list_any f (xs ++ ys) ≡ false
none_both f xs ys h g = list_any-append f xs ys ∙ or_from _ _ h g

pub none_parts : (f : Resource → Bool) (xs ys : List Resource) → list_any f (xs ++ ys) ≡ false → (list_any f xs ≡ false) × (list_any f ys ≡ false)
none_parts f xs ys h = or_parts _ _ (sym (list_any-append f xs ys) ∙ h)

-- ---- a row without its last trees

-- those in front, with what was laid of them
pub front : (keys : List (List ℕ)) (xs ys : List Resource) (base : ℕ) (words items levels : List ℕ) (left most : ℕ) → Row keys (xs ++ ys) base words items levels left most
    → Row keys xs base (lay_all (map laid xs) (place_of keys) base).0 (lay_all (map laid xs) (place_of keys) base).1 (map depth xs) (left + sum_by weight ys) (most_of (map most_entries xs))
front keys xs ys base words items levels left most r = record {
  behind = r.behind;
  near = r.near;
  good = r.good;
  laid_words = refl;
  laid_items = refl;
  fits = fits_front xs ys (place_of keys) base r.fits;
  deep = refl;
  shallow = omega (arith, r.shallow, most_both depth xs ys);
  weight = omega (arith, r.weight, sum_by-append weight xs ys);
  counts = refl;
  typed = (all_parts has_typed_parts xs ys r.typed).0;
  apart = (none_parts has_bad_key xs ys r.apart).0;
}

-- ---- a row with a tree more

one_fits : (xs : List Resource) (x : Resource) (places : List ℕ → ℕ) (base : ℕ) (words : List ℕ) → words ≡ (lay_all (map laid xs) places base).0 → FitsAll xs places base → Fits x places (base + length words) → FitsAll (xs ++ x ∷ []) places base
one_fits xs x places base words e f g =
    let at = base + length (lay_all (map laid xs) places base).0 in
    let h : Fits x places at = rw e at g in
    fits_both xs (x ∷ []) places base f (fits_cons x [] places at h (fits_none places (at + length (laid x places at).0) h.room))

pub more : (keys : List (List ℕ)) (xs : List Resource) (base : ℕ) (words items levels : List ℕ) (left most : ℕ) → Row keys xs base words items levels left most
    → (x : Resource) (new : List ℕ) (item level rest most' : ℕ) → IsLaid x (place_of keys) base words new item → level ≡ depth x → level ≤ 8 → rest + weight x ≡ left → most' ≡ max most (most_entries x) → has_typed_parts x ≡ true → has_bad_key x ≡ false
    → Row keys (xs ++ x ∷ []) base new (items ++ item ∷ []) (levels ++ level ∷ []) rest most'
more keys xs base words items levels left most r x new item level rest most' l d low w m t b = record {
  behind = r.behind;
  near = r.near;
  good = r.good;
  laid_words = rw (both_laid xs (x ∷ []) (place_of keys) base, l.words, r.laid_words) (simp append-nil);
  laid_items = rw (both_laid xs (x ∷ []) (place_of keys) base, r.laid_items, l.item, r.laid_words) refl;
  fits = one_fits xs x (place_of keys) base words r.laid_words r.fits l.fits;
  deep = rw (r.deep, d, map-append) refl;
  shallow = omega (arith, r.shallow, d, low, most_both depth xs (x ∷ []));
  weight = omega (arith, r.weight, w, sum_by-append weight xs (x ∷ []));
  counts = omega (arith, r.counts, m, most_both most_entries xs (x ∷ []));
  typed = all_append has_typed_parts xs (x ∷ []) r.typed (rw t refl);
  apart = none_both has_bad_key xs (x ∷ []) r.apart (rw b refl);
}

-- ---- a row with a leaf more

pub narrow : (v : ℕ) → v < value_count → IsLeaf (r.Integer v) 0 false true
narrow v small = rw (lt-leb value_count v small) at (leaf-Integer v)

-- an integer that is small enough is laid
pub integer_laid : (v : ℕ) → v < value_count → (base : ℕ) (old : List ℕ) → base + length old ≤ most_words → (places : List ℕ → ℕ) → IsLaid (r.Integer v) places base old old (1879048192 + v)
integer_laid v small base old room places =
    let e = at_place (laid-Integer v) places (base + length old) in
    record { words = rw e (sym (append-nil old)); item = rw e refl; fits = leaf_fits (r.Integer v) 0 true (narrow v small) places (base + length old) (rw e (omega arith)) }

-- a leaf that was laid stands at the end of the row
pub leaf_put : (d : Draft) (t : Resource) (parts : ℕ) → IsLeaf t parts false true → (new items levels : List ℕ) (item left : ℕ) → ((places : List ℕ → ℕ) → IsLaid t places d.base d.laying.words.items new item) → left + (1 + parts) ≡ d.left
    → items ≡ d.laying.items.items ++ item ∷ [] → levels ≡ d.levels.items ++ 1 ∷ [] → (keys : List (List ℕ)) (row : List Resource) → Holds d keys row → (bare d.pool.keys.items ≡ keys) × Row keys (row ++ t ∷ []) d.base new items levels left d.most
leaf_put d t parts l new items levels item left is w i v keys row h = (
  h.0,
  rw (i, v) (more keys row d.base d.laying.words.items d.laying.items.items d.levels.items d.left d.most h.1 t new item 1 left d.most (is (place_of keys)) (sym l.deep) (omega arith) (omega (arith, w, l.weighs)) (omega (arith, l.entries)) l.typed_is l.good),
)
