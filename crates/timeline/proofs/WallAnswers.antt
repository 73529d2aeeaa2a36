-- What a look-up by wall second answers, from the entry beside the wall second.
use Rattle.std.proofs.Common.{◌≡◌, ℕ, zero, suc, ◌<◌, inl, inr, Some, ℤ, pos, ◌+ℤ◌, ◌-ℤ◌, ◌<ℤ◌, ◌≤ℤ◌, refl, sym, ◌∙◌, arith}
use Rattle.std.proofs.lemmas.Int.{ints}
use Rattle.timeline.specs.declared.offset.Transition.{Transition}
use Rattle.timeline.specs.declared.offset.PossibleOffset.TheVariants as possible
use Rattle.timeline.specs.Zone.{PlainZone}
use Rattle.timeline.specs.Timeline.{entry_at, before_entry, offset_of}
use Rattle.timeline.specs.Placement.{IsGapOf, IsFoldOf}
use Rattle.timeline.specs.Laws.{IsLawful}
use Rattle.timeline.specs.Lookups.{IsBetween, AnswersWall}
use Rattle.timeline.proofs.Entries.{below_or_not}
use Rattle.timeline.proofs.Chain.{IsChain, IsAt, is_at}
use Rattle.timeline.proofs.ChainWalls.{between_shown}
use Rattle.timeline.proofs.TimelineEntries.{entry_within, before_next}
use Rattle.timeline.proofs.TimelineRises.{before_offset, since_is, before_is, after_is, lawful_chain}
use Rattle.timeline.proofs.WallSeconds.{IsPlace, IsClear, offset_there, clear_once, gap_never_shown, fold_repeated, fold_sides}

-- ---- a transition that changes the offset is alone at its second

step_back : (a b : ℤ) → a <ℤ b → a ≤ℤ (b -ℤ pos 1)
step_back a b lt = omega (arith, ints, lt)

pub just_before : {count : ℕ} {since offset : ℕ → ℤ} → IsChain count since offset → (n : ℕ) → n < count → (offset n ≡ offset (suc n) → ⊥)
    → IsAt count since (since n -ℤ pos 1) n
just_before {since = since} chain zero lt changes = is_at chain (since zero -ℤ pos 1) zero (omega arith) (λ j same. absurd (omega arith)) (λ _. omega (arith, ints))
just_before {since = since} {offset = offset} chain (suc m) lt changes = is_at chain (since (suc m) -ℤ pos 1) (suc m) (omega arith) last (λ _. omega (arith, ints))
  where
    rises : since m <ℤ since (suc m)
    rises = elim (below_or_not (since m) (since (suc m))) as (λ _. since m <ℤ since (suc m)) [
      | inl less ↦ less
      | inr le ↦ absurd (changes ((chain.follows m lt).alone le).1)
    ]

    last : (j : ℕ) → suc j ≡ suc m → since j ≤ℤ (since (suc m) -ℤ pos 1)
    last j same = let j_is : j ≡ m = omega arith in rw j_is (step_back _ _ rises)

pub from_then : {count : ℕ} {since offset : ℕ → ℤ} → IsChain count since offset → (n : ℕ) → n < count → (offset n ≡ offset (suc n) → ⊥)
    → IsAt count since (since n) (suc n)
from_then {count = count} {since = since} chain n lt changes = is_at chain (since n) (suc n) lt last next
  where
    last : (j : ℕ) → suc j ≡ suc n → since j ≤ℤ since n
    last j same = let j_is : j ≡ n = omega arith in rw j_is (omega (arith, ints))

    next : suc n < count → since n <ℤ since (suc n)
    next within = elim (below_or_not (since n) (since (suc n))) as (λ _. since n <ℤ since (suc n)) [
      | inl less ↦ less
      | inr le ↦ absurd (changes ((chain.follows n within).alone le).0)
    ]

-- so an entry that changes the offset parts what holds just before it from what holds from it on
pub is_between : (z : PlainZone) (n : ℕ) (e : Transition) → IsLawful z → entry_at z n ≡ Some e → ((before_entry z n).offset ≡ e.offset → ⊥)
    → IsBetween z (before_entry z n) (offset_of e) e.since
is_between z n e lawful at changes = record {
  entry = (n, e, at, refl);
  before_it = sym (offset_there z (e.since -ℤ pos 1) n before);
  from_it = sym (before_next z n e at) ∙ sym (offset_there z e.since (suc n) from);
}
  where
    differ : before_offset z n ≡ before_offset z (suc n) → ⊥
    differ same = changes (sym (before_is z n) ∙ same ∙ after_is z n e at)

    before : IsPlace z (e.since -ℤ pos 1) n
    before = rw (← since_is z n e at) (just_before (lawful_chain z lawful) n (entry_within z n e at) differ)

    from : IsPlace z e.since (suc n)
    from = rw (← since_is z n e at) (from_then (lawful_chain z lawful) n (entry_within z n e at) differ)

-- ---- the three answers

-- between two entries, what holds there
pub answers_single : (z : PlainZone) (w : ℤ) (k : ℕ) → IsLawful z → IsClear z w k → AnswersWall z w (possible.Single (before_entry z k))
answers_single z w k lawful clear =
    let shown = between_shown (lawful_chain z lawful) w k clear in
    (w -ℤ before_offset z k, clear_once z w k lawful clear, sym (offset_there z (w -ℤ before_offset z k) k shown.at))

-- in a gap, its two sides
pub answers_gap : (z : PlainZone) (w : ℤ) (n : ℕ) (e : Transition) → IsLawful z → entry_at z n ≡ Some e
    → (e.since +ℤ (before_entry z n).offset) ≤ℤ w → w <ℤ (e.since +ℤ e.offset)
    → AnswersWall z w (possible.None (before_entry z n) (offset_of e) e.since)
answers_gap z w n e lawful at old new =
    let gap : IsGapOf z w n = (e, at, old, new) in
    (gap_never_shown z w n lawful gap, is_between z n e lawful at (λ same. omega (arith, ints, old, new, same)), old, new)

-- in a fold, its two sides
pub answers_fold : (z : PlainZone) (w : ℤ) (n : ℕ) (e : Transition) → IsLawful z → entry_at z n ≡ Some e
    → (e.since +ℤ e.offset) ≤ℤ w → w <ℤ (e.since +ℤ (before_entry z n).offset)
    → AnswersWall z w (possible.Ambiguous (before_entry z n) (offset_of e) e.since)
answers_fold z w n e lawful at new old =
    let fold : IsFoldOf z w n = (e, at, new, old) in
    (w -ℤ before_offset z n, w -ℤ before_offset z (suc n), (fold_repeated z w n lawful fold).twice, is_between z n e lawful at (λ same. omega (arith, ints, old, new, same)), new, old, fold_sides z w n e lawful at fold)
