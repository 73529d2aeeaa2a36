-- In a lawful zone the offset changes at entries, and nowhere else.
use Rattle.std.proofs.Common.{◌≡◌, ℕ, suc, ◌<◌, ◌⊎◌, inl, inr, Some, ℤ, pos, ◌-ℤ◌, refl, sym, ap, ◌∙◌, arith}
use Rattle.std.proofs.lemmas.Int.{ints}
use Rattle.std.proofs.lemmas.Bool.{cases_order}
use Rattle.timeline.specs.declared.offset.Offset.{Offset}
use Rattle.timeline.specs.declared.offset.Transition.{Transition}
use Rattle.timeline.specs.declared.offset.PossibleOffset.TheVariants as possible
use Rattle.timeline.specs.Zone.{PlainZone}
use Rattle.timeline.specs.Timeline.{entry_at, before_entry, offset_at}
use Rattle.timeline.specs.Placement.{IsFoldOf}
use Rattle.timeline.specs.ShownWalls.{IsShownTwice}
use Rattle.timeline.specs.Laws.{IsLawful}
use Rattle.timeline.specs.Lookups.{AnswersWall}
use Rattle.timeline.specs.OffsetPromises.{AreSides}
use Rattle.timeline.proofs.Chain.{place_of}
use Rattle.timeline.proofs.TimelineEntries.{entry_there, entry_within, before_next}
use Rattle.timeline.proofs.TimelineRises.{before_offset, since_is, before_is, after_is, lawful_chain}
use Rattle.timeline.proofs.WallSeconds.{IsPlace, offset_there, fold_repeated}
use Rattle.timeline.proofs.WallAnswers.{just_before, from_then}
use Rattle.timeline.proofs.Placing.{sides, sides_of}

abbrev Differ : PlainZone → ℤ → Type 0
Differ z t = (offset_at z (t -ℤ pos 1)).offset ≡ (offset_at z t).offset → ⊥

-- a second at which the offset is another than just before is that of an entry
entry_of_change : (z : PlainZone) (t : ℤ) → IsLawful z → Differ z t → (n : ℕ) × (e : Transition) × (entry_at z n ≡ Some e) × (e.since ≡ t)
entry_of_change z t lawful differ = by (cases_order p.0 q.0)
  where
    p : (k : ℕ) × IsPlace z (t -ℤ pos 1) k
    p = place_of (lawful_chain z lawful) (t -ℤ pos 1)

    q : (k : ℕ) × IsPlace z t k
    q = place_of (lawful_chain z lawful) t

    by : (p.0 ≡ q.0) ⊎ ((p.0 < q.0) ⊎ (q.0 < p.0)) → (n : ℕ) × (e : Transition) × (entry_at z n ≡ Some e) × (e.since ≡ t)
    by (inl same) =
        let old = offset_there z (t -ℤ pos 1) p.0 p.1 in
        let new = offset_there z t q.0 q.1 in
        absurd (differ (ap (λ (o : Offset). o.offset) (old ∙ ap (before_entry z) same ∙ sym new)))
    by (inr (inl less)) =
        let within = q.1.within in
        let there = entry_there z p.0 (omega arith) in
        let since = since_is z p.0 there.0 there.1 in
        let low = p.1.ahead p.0 (omega arith) (omega arith) in
        let high = q.1.passed p.0 less in
        (p.0, there.0, there.1, omega (arith, ints, since, low, high))
    by (inr (inr more)) =
        let within = p.1.within in
        let low = p.1.passed q.0 more in
        let high = q.1.ahead q.0 (omega arith) (omega arith) in
        absurd (omega (arith, ints, low, high))

pub changes_at_entry : (z : PlainZone) (t : ℤ) → IsLawful z → Differ z t → (n : ℕ) × (e : Transition) × AreSides z t n e
changes_at_entry z t lawful differ = by (entry_of_change z t lawful differ)
  where
    by : (n : ℕ) × (e : Transition) × (entry_at z n ≡ Some e) × (e.since ≡ t) → (n : ℕ) × (e : Transition) × AreSides z t n e
    by found =
        let n = found.0 in
        let e = found.1 in
        let since = found.3 in
        let apart : Differ z e.since = rw since differ in
        let both = sides z n e lawful found.2 apart in
        let old : (offset_at z (t -ℤ pos 1)).offset ≡ (before_entry z n).offset = rw (← since) (ap (λ (o : Offset). o.offset) both.0) in
        let new : (offset_at z t).offset ≡ e.offset = rw (← since) (ap (λ (o : Offset). o.offset) both.1) in
        (n, e, record { entry = found.2; since = since; before = old; after = new })

-- the offsets on the two sides of an entry that changes it
pub sides_of_entry : (z : PlainZone) (n : ℕ) (e : Transition) → IsLawful z → entry_at z n ≡ Some e → ((before_entry z n).offset ≡ e.offset → ⊥) → AreSides z e.since n e
sides_of_entry z n e lawful at differ =
    let chain = lawful_chain z lawful in
    let within = entry_within z n e at in
    let since = since_is z n e at in
    let changes : before_offset z n ≡ before_offset z (suc n) → ⊥ = λ same. differ (sym (before_is z n) ∙ same ∙ after_is z n e at) in
    let before : IsPlace z (e.since -ℤ pos 1) n = rw (← since) (just_before chain n within changes) in
    let from : IsPlace z e.since (suc n) = rw (← since) (from_then chain n within changes) in
    record {
      entry = at;
      since = refl;
      before = ap (λ (o : Offset). o.offset) (offset_there z _ n before);
      after = ap (λ (o : Offset). o.offset) (offset_there z _ (suc n) from ∙ before_next z n e at);
    }

-- ---- the two seconds of a fold

-- two seconds with the offsets that hold at them
abbrev Two : PlainZone → ℤ → ℤ → ℤ → Type 0
Two z w b a = (t : ℤ) × (u : ℤ) × IsShownTwice z w t u × (b ≡ (offset_at z t).offset) × (a ≡ (offset_at z u).offset)

folded : (z : PlainZone) (w : ℤ) (n : ℕ) (b a : ℤ) → IsLawful z → IsFoldOf z w n → b ≡ before_offset z n → a ≡ before_offset z (suc n) → Two z w b a
folded z w n b a lawful fold old new =
    let twice = (fold_repeated z w n lawful fold).twice in
    let earlier = twice.earlier in
    let later = twice.later in
    (_, _, twice, omega (arith, ints, old, earlier), omega (arith, ints, new, later))

pub two_sides : (z : PlainZone) (w : ℤ) (before after : Offset) (transition : ℤ) → IsLawful z → AnswersWall z w (possible.Ambiguous before after transition) → Two z w before.offset after.offset
two_sides z w before after transition lawful h =
    let new = h.4 in
    let old = h.5 in
    let found = sides_of z before after transition lawful h.3 (λ same. omega (arith, ints, new, old, same)) in
    let at = found.2 in
    let since = at.since in
    let left = ap (λ (o : Offset). o.offset) at.before_is in
    let right = ap (λ (o : Offset). o.offset) at.after_is in
    let fold : IsFoldOf z w found.0 = (found.1, at.at, omega (arith, ints, since, right, new), omega (arith, ints, since, left, old)) in
    folded z w found.0 _ _ lawful fold (left ∙ sym (before_is z found.0)) (right ∙ sym (after_is z found.0 found.1 at.at))
