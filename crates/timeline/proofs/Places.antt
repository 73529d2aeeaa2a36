-- A wall second has one place at most.
use Rattle.std.proofs.Common.{◌≡◌, ℤ, ◌≤ℤ◌, ◌-ℤ◌, sym, ap, ◌∙◌, inl, inr, arith}
use Rattle.std.proofs.lemmas.Int.{ints}
use Rattle.timeline.specs.Zone.{PlainZone}
use Rattle.timeline.specs.Timeline.{before_entry}
use Rattle.timeline.specs.Placement.{IsPlaced}

pub placed-once : (z : PlainZone) (w s s' : ℤ) → IsPlaced z w s → IsPlaced z w s' → s ≡ s'
placed-once z w s s' (inl a) (inl b) =
    let one : s ≤ℤ s' = a.first s' b.shows in
    let other : s' ≤ℤ s = b.first s a.shows in
    omega (arith, ints)
placed-once z w s s' (inl a) (inr b) = absurd (b.1.never s a.shows)
placed-once z w s s' (inr a) (inl b) = absurd (a.1.never s' b.shows)
placed-once z w s s' (inr a) (inr b) =
    a.2 ∙ ap (λ n. w -ℤ (before_entry z n).offset) (b.1.only a.0 a.1.gap) ∙ sym b.2
