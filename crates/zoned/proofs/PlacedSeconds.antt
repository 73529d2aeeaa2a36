-- A wall second less the first offset of a zone's answer is where it is placed.
use Rattle.std.proofs.Common.{◌≡◌, inl, inr, ℤ, ◌-ℤ◌, ◌≤ℤ◌, arith, ap, subst, sym}
use Rattle.std.proofs.lemmas.Int.{ints}
use Rattle.civil.specs.Shown.{Shows}
use Rattle.zoned.specs.declared.offset.CivilOffset.{CivilOffset}
use Rattle.zoned.specs.declared.offset.CivilOffset.TheVariants as Civil
use Rattle.zoned.specs.Placing.{before, IsPlaced}
use Rattle.zoned.specs.CivilAnswers.{IsCivil, civil_map, first_offset}

-- the first second that shows w
is_first : (off : ℤ → ℤ) (w s t : ℤ) → s ≡ t → Shows off t w → ((u : ℤ) → Shows off u w → t ≤ℤ u) → IsPlaced off w s
is_first off w s t e shows least = subst (λ (x : ℤ). IsPlaced off w x) (sym e) (inl (record { shows = shows; first = least }))

pub placed-civil : {O : Type 0} (seconds : O → ℤ) (off : ℤ → ℤ) (w s : ℤ) (r : CivilOffset O) → IsCivil off w (civil_map seconds r) → s ≡ w -ℤ seconds (first_offset r) → IsPlaced off w s
placed-civil seconds off w s (Civil.Single o) h e =
    is_first off w s h.0 (let f = h.1.shows in let g = h.2 in omega (arith, ints)) h.1.shows (λ u shows. let f = h.1.only u shows in omega (arith, ints))
placed-civil seconds off w s (Civil.Ambiguous b a) h e =
    is_first off w s h.0 (let f = h.2.earlier in let g = h.3 in omega (arith, ints)) h.2.earlier
    (λ u shows. let f = h.2.order in elim (h.2.only u shows) [ inl p ↦ omega (arith, ints) | inr p ↦ omega (arith, ints) ])
placed-civil seconds off w s (Civil.Gap b a) h e =
    inr (h.0, h.1, (let f = h.2 in omega (arith, ints)))

-- no wall second is placed at two seconds
pub placed_once : (off : ℤ → ℤ) (w s t : ℤ) → IsPlaced off w s → IsPlaced off w t → s ≡ t
placed_once off w s t (inl a) (inl b) = let low = a.first t b.shows in let high = b.first s a.shows in omega (arith, ints)
placed_once off w s t (inl a) (inr b) = absurd (b.1.never s a.shows)
placed_once off w s t (inr a) (inl b) = absurd (a.1.never t b.shows)
placed_once off w s t (inr a) (inr b) =
    let same : a.0 ≡ b.0 = b.1.only a.0 a.1.gap in
    let offset = ap (λ (u : ℤ). before off u) same in
    let e = a.2 in
    let f = b.2 in
    omega (arith, ints)
