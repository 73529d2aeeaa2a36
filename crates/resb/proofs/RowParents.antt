-- The last trees of a row become the parts of one.
use Rattle.std.proofs.Common.{◌≡◌, ℕ, ◌+◌, ◌-◌, ◌≤◌, true, List, [], ◌∷◌, ◌++◌, length, take, drop, length-drop, refl, sym, ap, ◌∙◌, max, arith}
use Rattle.std.proofs.Math.Seq.{drop-append_seam, take-append_seam}
use Rattle.std.proofs.lemmas.List.{length-append, length-map, map-append, take_all}
use Rattle.std.specs.Prelude.{map, sum_by}
use Rattle.resb_tree.specs.declared.resource.Resource.{Resource}
use Rattle.resb_tree.specs.Keys.{distinct}
use Rattle.resb_tree.specs.Weight.{weight}
use Rattle.resb.specs.Pool.{place_of}
use Rattle.resb.specs.Laws.{has_typed_parts}
use Rattle.resb.specs.LaidTrees.{laid, lay_all}
use Rattle.resb.specs.WrittenFiles.{most_of, most_entries}
use Rattle.resb.specs.Writing.{depth}
use Rattle.resb.specs.BadKeys.{all_keys, has_bad_key}
use Rattle.resb.specs.declared.draft.Draft.{Draft}
use Rattle.resb.specs.Inside.Laying.{IsLaid, Stands}
use Rattle.resb.specs.DraftRows.{Holds, Row}
use Rattle.resb.proofs.Rooms.{row_items}
use Rattle.resb.proofs.Rows.{both_laid, fits_back, front, more, none_parts}
use Rattle.resb.proofs.TreeKinds.{IsParent, most_both, length-lay_all, all_parts}

-- what a draft has of the trees in front, and of the last ones
pub record Split (d : Draft) (keys : List (List ℕ)) (row xs : List Resource) (kept : ℕ) : Type 0 where
  pub items : take kept d.laying.items.items ≡ (lay_all (map laid row) (place_of keys) d.base).1
  pub levels : take kept d.levels.items ≡ map depth row
  pub deepest : most_of (take (length d.levels.items - kept) (drop kept d.levels.items)) ≡ most_of (map depth xs)
  pub stands : Stands xs (place_of keys) d.base (lay_all (map laid row) (place_of keys) d.base).0 d.laying.words.items (drop kept d.laying.items.items)

pub split : (d : Draft) (keys : List (List ℕ)) (row xs : List Resource) (kept : ℕ) → Holds d keys (row ++ xs) → kept + length xs ≡ length d.laying.items.items → Split d keys row xs kept
split d keys row xs kept h n =
    let first = lay_all (map laid row) (place_of keys) d.base in
    let last = lay_all (map laid xs) (place_of keys) (d.base + length first.0) in
    let k : kept ≡ length row = omega (arith, n, row_items d keys (row ++ xs) h, length-append row xs) in
    let ki : kept ≡ length first.1 = k ∙ sym (length-lay_all row (place_of keys) d.base) in
    let kl : kept ≡ length (map depth row) = k ∙ sym (length-map row depth) in
    let both = both_laid row xs (place_of keys) d.base in
    let items : d.laying.items.items ≡ first.1 ++ last.1 = h.1.laid_items ∙ ap (λ (w : List ℕ × List ℕ). w.1) both in
    let levels : d.levels.items ≡ map depth row ++ map depth xs = h.1.deep ∙ map-append depth row xs in
    let own : drop kept d.levels.items ≡ map depth xs = rw (levels, kl) (drop-append_seam (map depth row) (map depth xs)) in
    let few : length (drop kept d.levels.items) ≤ length d.levels.items - kept = omega (arith, length-drop kept d.levels.items) in
    record {
      items = rw (items, ki) (take-append_seam first.1 last.1);
      levels = rw (levels, kl) (take-append_seam (map depth row) (map depth xs));
      deepest = ap most_of (take_all (length d.levels.items - kept) (drop kept d.levels.items) few ∙ own);
      stands = record { words = h.1.laid_words ∙ ap (λ (w : List ℕ × List ℕ). w.0) both; items = rw (items, ki) (drop-append_seam first.1 last.1); fits = fits_back row xs (place_of keys) d.base h.1.fits };
    }

-- the last trees are taken away, and a parent of them stands in their place
pub parent_more : (d : Draft) (keys : List (List ℕ)) (row xs : List Resource) (t : Resource) (names : List (List ℕ)) (kept : ℕ) (new : List ℕ) (item level rest most : ℕ) → IsParent t xs names → Holds d keys (row ++ xs) → Split d keys row xs kept
    → IsLaid t (place_of keys) d.base (lay_all (map laid row) (place_of keys) d.base).0 new item → level ≡ 1 + most_of (take (length d.levels.items - kept) (drop kept d.levels.items)) → level ≤ 8 → rest + (1 + sum_by length names) ≡ d.left
    → most ≡ max d.most (length names) → all_keys names ≡ true → distinct names ≡ true → Row keys (row ++ t ∷ []) d.base new (take kept d.laying.items.items ++ item ∷ []) (take kept d.levels.items ++ level ∷ []) rest most
parent_more d keys row xs t names kept new item level rest most p h s l deep low w m good apart =
    let first = lay_all (map laid row) (place_of keys) d.base in
    let in_front = front keys row xs d.base d.laying.words.items d.laying.items.items d.levels.items d.left d.most h.1 in
    rw (s.items, s.levels)
    (more keys row d.base first.0 first.1 (map depth row) (d.left + sum_by weight xs) (most_of (map most_entries row)) in_front t new item level rest most l (omega (arith, deep, p.deep, s.deepest)) low (omega (arith, w, p.weighs))
    (omega (arith, m, p.entries, h.1.counts, most_both most_entries row xs)) (p.typed ∙ (all_parts has_typed_parts row xs h.1.typed).1) (rw (p.bad, good, apart, (none_parts has_bad_key row xs h.1.apart).1) refl))
