-- An empty row, and the words of the last one.
use Rattle.std.proofs.Common.{◌≡◌, ℕ, ◌+◌, ◌-◌, ◌*◌, ◌≤◌, true, List, [], ◌∷◌, length, Some, refl, sym, ap, ◌∙◌, arith}
use Rattle.std.proofs.lemmas.List.{length-append, append-nil}
use Rattle.std.proofs.lemmas.Bool.{and_parts, or_parts}
use Rattle.resb_tree.specs.declared.resource.Resource.{Resource}
use Rattle.resb_tree.specs.Header.{tree_of}
use Rattle.resb_tree.specs.Weight.{weight, most_weight}
use Rattle.resb.specs.Inside.Bundles.{bundle_of}
use Rattle.resb.specs.Packing.{most_unit}
use Rattle.resb.specs.Plan.{most_words}
use Rattle.resb.specs.Pool.{place_of, words_end}
use Rattle.resb.specs.LaidTrees.{laid}
use Rattle.resb.specs.WrittenFiles.{most_of, most_entries, written}
use Rattle.resb.specs.Writing.{places_of}
use Rattle.resb.specs.BadKeys.{all_keys}
use Rattle.resb.specs.TreeKeys.{key_pool}
use Rattle.resb.specs.DraftRows.{Row}
use Rattle.resb.proofs.Denotes.{denotes}
use Rattle.resb.proofs.LaidWords.{fits_none}
use Rattle.resb.proofs.WrittenWords.{Kept, keeps, written_is, length-written}

-- an empty row
pub no_row : (keys : List (List ℕ)) (base : ℕ) → base ≡ words_end keys → most_of (places_of keys 32) ≤ most_unit → all_keys keys ≡ true → base ≤ most_words → Row keys [] base [] [] [] most_weight 0
no_row keys base b n g le = record {
  behind = b;
  near = n;
  good = g;
  laid_words = refl;
  laid_items = refl;
  fits = fits_none (place_of keys) base le;
  deep = refl;
  shallow = omega arith;
  weight = omega arith;
  counts = refl;
  typed = refl;
  apart = refl;
}

-- ---- a row of one tree, with that tree's keys

root_words : (t : Resource) (base : ℕ) (words items levels : List ℕ) (left most : ℕ) → Row (key_pool t) (t ∷ []) base words items levels left most → words ≡ (laid t (place_of (key_pool t)) base).0
root_words t base words items levels left most r = r.laid_words ∙ append-nil (laid t (place_of (key_pool t)) base).0

pub row_written : (t : Resource) (base : ℕ) (words items levels : List ℕ) (left most root : ℕ) → Row (key_pool t) (t ∷ []) base words items levels left most → items ≡ root ∷ [] → bundle_of (key_pool t) base root words most ≡ written t
row_written t base words items levels left most root r one =
    let w = root_words t base words items levels left most r in
    let both : root ∷ [] ≡ (laid t (place_of (key_pool t)) base).1 ∷ [] = sym one ∙ r.laid_items in
    let i : root ≡ (laid t (place_of (key_pool t)) base).1 = cc in
    let m : most ≡ most_entries t = omega (arith, r.counts) in
    rw (w, i, m, r.behind) (sym (written_is t))

row_length : (t : Resource) (base : ℕ) (words items levels : List ℕ) (left most : ℕ) → Row (key_pool t) (t ∷ []) base words items levels left most → length (written t) ≡ 6 + (base + length words)
row_length t base words items levels left most r =
    let w = root_words t base words items levels left most r in
    length-written t ∙ rw (w, r.behind) refl

pub row_light : (t : Resource) (base : ℕ) (words items levels : List ℕ) (left most : ℕ) → Row (key_pool t) (t ∷ []) base words items levels left most → most_weight - left ≤ 8 * (6 + (base + length words)) → weight t ≤ 8 * length (written t)
row_light t base words items levels left most r light = omega (arith, row_length t base words items levels left most r, light, r.weight)

pub row_kept : (t : Resource) (base : ℕ) (words items levels : List ℕ) (left most : ℕ) → Row (key_pool t) (t ∷ []) base words items levels left most → weight t ≤ 8 * length (written t) → Kept t
row_kept t base words items levels left most r light =
    let len = row_length t base words items levels left most r in
    let w = root_words t base words items levels left most r in
    let all = length-append (laid t (place_of (key_pool t)) base).0 [] in
    record {
      words = omega (arith, len, r.fits.room, ap length w, all);
      shallow = omega (arith, r.shallow);
      near = r.near;
      counts = omega (arith, r.fits.counts);
      small = (or_parts _ _ r.fits.small).0;
      light = light;
    }

-- the words denote it
pub row_denotes : (t : Resource) (base : ℕ) (words items levels : List ℕ) (left most : ℕ) → Row (key_pool t) (t ∷ []) base words items levels left most → weight t ≤ 8 * length (written t) → tree_of (written t) ≡ Some t
row_denotes t base words items levels left most r light =
    denotes t (and_parts _ _ r.typed).0 (or_parts _ _ r.apart).0 (keeps t (row_kept t base words items levels left most r light))
