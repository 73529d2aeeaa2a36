-- What room is left for in a draft, and why a call of it is refused.
use Rattle.std.proofs.lemmas.List.Sums.{sum_by-append}
use Rattle.std.proofs.Common.{◌≡◌, ℕ, ◌+◌, ◌-◌, ◌*◌, ◌≤◌, ◌≢◌, List, [], ◌∷◌, ◌++◌, length, ap, ◌∙◌, inl, inr, arith}
use Rattle.std.proofs.lemmas.List.{length-map}
use Rattle.std.specs.Prelude.{map, sum_by}
use Rattle.std.proofs.lemmas.Bool.Decides.{leb_tells}
use Rattle.resb_tree.specs.declared.error.ResbError.{ResbError}
use Rattle.resb_tree.specs.declared.error.ResbError.TheVariants.{Memory, NoTree, TooLarge, BadKey}
use Rattle.resb_tree.specs.declared.resource.Resource.{Resource}
use Rattle.resb_tree.specs.Weight.{weight, most_weight}
use Rattle.resb.specs.Plan.{most_words, Refuses}
use Rattle.resb.specs.Inside.Laying.{Fits}
use Rattle.resb.specs.Pool.{place_of, words_end}
use Rattle.resb.specs.LaidTrees.{laid, lay_all}
use Rattle.resb.specs.Writing.{depth}
use Rattle.resb.specs.DraftRows.{Holds, HasRoom}
use Rattle.resb.specs.Drafts.{Unwritten}
use Rattle.resb.specs.declared.draft.Draft.{Draft}
use Rattle.resb.proofs.LaidWords.{fits-first, parts_fit, refused_still}
use Rattle.resb.proofs.Rows.{fits_both, fits_front, fits_back}
use Rattle.resb.proofs.TreeKinds.{IsParent, most_both, length-lay_all}

-- ---- room for more

pub room_front : (keys : List (List ℕ)) (xs ys : List Resource) → HasRoom keys (xs ++ ys) → HasRoom keys xs
room_front keys xs ys h = record {
  fits = fits_front xs ys (place_of keys) _ h.fits;
  shallow = omega (arith, h.shallow, most_both depth xs ys);
  light = omega (arith, h.light, sum_by-append weight xs ys);
}

pub room_words : (d : Draft) (keys : List (List ℕ)) (row : List Resource) → Holds d keys row → d.base + length d.laying.words.items ≤ most_words
room_words d keys row h = omega (arith, h.1.fits.room, ap length h.1.laid_words)

-- a tree fits where it is to be laid
pub last_fits : (d : Draft) (keys : List (List ℕ)) (held row : List Resource) (t : Resource) → Holds d keys held → HasRoom keys (row ++ t ∷ []) → Fits t (place_of keys) (d.base + length (lay_all (map laid row) (place_of keys) d.base).0)
last_fits d keys held row t h room = rw h.1.behind (fits-first t [] (place_of keys) _ (fits_back row (t ∷ []) (place_of keys) _ room.fits))

-- where there is room for a parent, there is room for its parts
pub parts_room : (keys : List (List ℕ)) (row xs : List Resource) (t : Resource) (names : List (List ℕ)) → IsParent t xs names → HasRoom keys (row ++ t ∷ []) → HasRoom keys (row ++ xs)
parts_room keys row xs t names p room =
    let back = fits_back row (t ∷ []) (place_of keys) _ room.fits in
    record {
      fits = fits_both row xs (place_of keys) _ (fits_front row (t ∷ []) (place_of keys) _ room.fits) (parts_fit t xs names p (place_of keys) _ (fits-first t [] (place_of keys) _ back));
      shallow = omega (arith, room.shallow, p.deep, most_both depth row (t ∷ []), most_both depth row xs);
      light = omega (arith, room.light, p.weighs, sum_by-append weight row (t ∷ []), sum_by-append weight row xs);
    }

-- ---- why a tree is refused

-- a tree is refused only where a fact fails that holds wherever there is room
pub refused_heavy : (d : Draft) (keys : List (List ℕ)) (held row : List Resource) (t : Resource) (own : ℕ) (P : Type 0) (e : ResbError) → weight t + sum_by weight row ≡ 1 + own + sum_by weight held → Holds d keys held
    → Refuses P e → (d.base + length d.laying.words.items ≤ most_words → 1 + own ≤ d.left → P) → Refuses (HasRoom keys (row ++ t ∷ [])) e
refused_heavy d keys held row t own P e w h g f = refused_still e P _ (λ (room : HasRoom keys (row ++ t ∷ [])). f (room_words d keys held h) (omega (arith, w, h.1.weight, room.light, sum_by-append weight row (t ∷ [])))) g

pub refused_long : (d : Draft) (keys : List (List ℕ)) (held row : List Resource) (t : Resource) (P : Type 0) (e : ResbError) → Holds d keys held
    → Refuses P e → (Fits t (place_of keys) (d.base + length (lay_all (map laid row) (place_of keys) d.base).0) → P) → Refuses (HasRoom keys (row ++ t ∷ [])) e
refused_long d keys held row t P e h g f = refused_still e P _ (λ (room : HasRoom keys (row ++ t ∷ [])). f (last_fits d keys held row t h room)) g

pub leaf_long : (d : Draft) (t : Resource) (P : Type 0) (e : ResbError) → Refuses P e → ((places : List ℕ → ℕ) → Fits t places (d.base + length d.laying.words.items) → P) → (keys : List (List ℕ)) (row : List Resource) → Holds d keys row → Refuses (HasRoom keys (row ++ t ∷ [])) e
leaf_long d t P e g f keys row h = refused_long d keys row row t P e h g (λ fits. f (place_of keys) (rw h.1.laid_words fits))

pub row_items : (d : Draft) (keys : List (List ℕ)) (row : List Resource) → Holds d keys row → length d.laying.items.items ≡ length row
row_items d keys row h = ap length h.1.laid_items ∙ length-lay_all row (place_of keys) d.base

pub row_levels : (d : Draft) (keys : List (List ℕ)) (row : List Resource) → Holds d keys row → length d.levels.items ≡ length row
row_levels d keys row h = ap length h.1.deep ∙ length-map row depth

-- ---- why a row is not written

pub not_one : (d : Draft) (keys : List (List ℕ)) (row : List Resource) (e : ResbError) → Holds d keys row → e ≡ NoTree → length d.laying.items.items ≢ 1 → Unwritten keys row e
not_one d keys row e h is f = rw is (λ one. f (row_items d keys row h ∙ one))

refused_unwritten : (keys : List (List ℕ)) (row : List Resource) (P : Type 0) (e : ResbError) → Refuses P e → ((P → ⊥) → Unwritten keys row TooLarge) → Unwritten keys row e
refused_unwritten keys row P Memory f g = f
refused_unwritten keys row P NoTree f g = absurd f
refused_unwritten keys row P TooLarge f g = g f
refused_unwritten keys row P BadKey f g = absurd f

pub no_words : (d : Draft) (keys : List (List ℕ)) (row : List Resource) (e : ResbError) → Holds d keys row → Refuses (d.base + length d.laying.words.items ≤ most_words) e → Unwritten keys row e
no_words d keys row e h f = refused_unwritten keys row _ e f (λ full. absurd (full (room_words d keys row h)))

pub too_heavy : (d : Draft) (keys : List (List ℕ)) (row : List Resource) (root weighed : ℕ) (e : ResbError) (words : List ℕ) → Holds d keys row → d.laying.items.items ≡ root ∷ [] → weighed ≡ most_weight - d.left → words ≡ d.laying.words.items
    → Refuses (weighed ≤ 8 * (6 + (d.base + length words))) e → Unwritten keys row e
too_heavy d keys row root weighed e words h one w is f = refused_unwritten keys row _ e f (λ heavy.
    let long : length words ≡ length (lay_all (map laid row) (place_of keys) (words_end keys)).0 = ap length is ∙ ap length h.1.laid_words ∙ ap (λ (at : ℕ). length (lay_all (map laid row) (place_of keys) at).0) h.1.behind in (
      omega (arith, row_items d keys row h, ap length one),
      elim (leb_tells weighed (8 * (6 + (d.base + length words)))) [
        | inl g ↦ absurd (heavy g.1)
        | inr g ↦ omega (arith, g.1, long, w, h.1.weight, h.1.behind)
      ],
    ))
