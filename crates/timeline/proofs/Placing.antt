-- Where an answer to a wall second places it.
use Rattle.std.proofs.Common.{◌≡◌, ℕ, zero, suc, ◌+◌, ◌-◌, ◌<◌, ◌≤◌, Some, ℤ, pos, ◌+ℤ◌, ◌-ℤ◌, ◌<ℤ◌, ◌≤ℤ◌, refl, sym, ap, ◌∙◌, ◌⊎◌, inl, inr, arith}
use Rattle.std.proofs.lemmas.Int.{ints}
use Rattle.std.proofs.lemmas.Bool.{cases_order}
use Rattle.timeline.specs.declared.offset.Offset.{Offset}
use Rattle.timeline.specs.declared.offset.Transition.{Transition}
use Rattle.timeline.specs.declared.offset.PossibleOffset.{PossibleOffset}
use Rattle.timeline.specs.declared.offset.PossibleOffset.TheVariants as possible
use Rattle.timeline.specs.Zone.{PlainZone}
use Rattle.timeline.specs.Timeline.{entry_at, before_entry, offset_at, offset_of}
use Rattle.timeline.specs.ShownWalls.{Shows, IsFirstShown, IsShownOnce, IsShownTwice}
use Rattle.timeline.specs.Placement.{IsGapOf, IsFoldOf, IsPlaced}
use Rattle.timeline.specs.Laws.{IsLawful}
use Rattle.timeline.specs.Lookups.{IsBetween, AnswersWall, placing}
use Rattle.timeline.proofs.Entries.{below_or_not}
use Rattle.timeline.proofs.Chain.{IsChain, IsAt, rises, place_of}
use Rattle.timeline.proofs.TimelineEntries.{entry_count, entry_within, before_next}
use Rattle.timeline.proofs.TimelineRises.{entry_since, before_offset, since_is, before_is, lawful_chain}
use Rattle.timeline.proofs.WallSeconds.{IsPlace, offset_there, gap_skipped, fold_repeated}
use Rattle.timeline.proofs.WallAnswers.{just_before, from_then}

-- ---- transitions at one second

-- of several at one second none changes the offset
shared : {count : ℕ} {since offset : ℕ → ℤ} → IsChain count since offset → (m n : ℕ) → m < count → n < count → since m ≡ since n → (m < n) ⊎ (n < m) → offset m ≡ offset (suc m)
shared chain m n lt lt' same (inl less) =
    let up = rises chain (suc m) n less lt' in
    ((chain.follows m (omega arith)).alone (omega (arith, ints, same, up))).0
shared chain zero n lt lt' same (inr more) = absurd (omega arith)
shared chain (suc l) n lt lt' same (inr more) =
    let up = rises chain n l (omega arith) (omega arith) in
    ((chain.follows l lt).alone (omega (arith, ints, same, up))).1

-- where no transition changes it, the offset stays
flat : (offset : ℕ → ℤ) (p d : ℕ) → ((m : ℕ) → p ≤ m → m < p + d → offset m ≡ offset (suc m)) → offset p ≡ offset (p + d)
flat offset p zero none = let same : p + 0 ≡ p = omega arith in rw same refl
flat offset p (suc d) none =
    let next : p + suc d ≡ suc (p + d) = omega arith in
    rw next (flat offset p d (λ m from lt. none m from (omega arith)) ∙ none (p + d) (omega arith) (omega arith))

-- so the offset just before a transition that changes nothing is the one from it on
unchanged : {count : ℕ} {since offset : ℕ → ℤ} → IsChain count since offset → (n p q : ℕ) → n < count → offset n ≡ offset (suc n)
    → IsAt count since (since n -ℤ pos 1) p → IsAt count since (since n) q → offset p ≡ offset q
unchanged {count = count} {since = since} {offset = offset} chain n p q lt same at_p at_q = by (cases_order p q)
  where
    there : (m : ℕ) → p ≤ m → m < q → since m ≡ since n
    there m from less =
        let q_within = at_q.within in
        let low = at_p.ahead m from (omega arith) in
        let high = at_q.passed m less in
        omega (arith, ints, low, high)

    none : (m : ℕ) → p ≤ m → m < q → offset m ≡ offset (suc m)
    none m from less = by (cases_order m n)
      where
        by : (m ≡ n) ⊎ ((m < n) ⊎ (n < m)) → offset m ≡ offset (suc m)
        by (inl is) = rw is same
        by (inr apart) = shared chain m n (let q_within = at_q.within in omega arith) lt (there m from less) apart

    by : (p ≡ q) ⊎ ((p < q) ⊎ (q < p)) → offset p ≡ offset q
    by (inl is) = rw is refl
    by (inr (inl less)) = stretch (q - p) (omega arith)
      where
        stretch : (d : ℕ) → p + d ≡ q → offset p ≡ offset q
        stretch d end = rw (← end) (flat offset p d (λ m from lt. none m from (omega (arith, end))))
    by (inr (inr more)) =
        let p_within = at_p.within in
        let low = at_p.passed q more in
        let high = at_q.ahead q (omega arith) (omega arith) in
        absurd (omega (arith, ints, low, high))

-- ---- the two sides of an entry

same_or_not : (a b : ℤ) → (a ≡ b) ⊎ (a ≡ b → ⊥)
same_or_not a b = by (below_or_not a b) (below_or_not b a)
  where
    by : (a <ℤ b) ⊎ (b ≤ℤ a) → (b <ℤ a) ⊎ (a ≤ℤ b) → (a ≡ b) ⊎ (a ≡ b → ⊥)
    by (inl less) other = inr (λ same. omega (arith, ints, less, same))
    by (inr le) (inl more) = inr (λ same. omega (arith, ints, more, same))
    by (inr le) (inr ge) = inl (omega (arith, ints, le, ge))

-- what holds just before an entry's second and from it on, where these differ, is what holds on the two sides of the entry
pub sides : (z : PlainZone) (n : ℕ) (e : Transition) → IsLawful z → entry_at z n ≡ Some e → ((offset_at z (e.since -ℤ pos 1)).offset ≡ (offset_at z e.since).offset → ⊥)
    → (offset_at z (e.since -ℤ pos 1) ≡ before_entry z n) × (offset_at z e.since ≡ offset_of e)
sides z n e lawful at differ = by (same_or_not (before_offset z n) (before_offset z (suc n)))
  where
    within : n < entry_count z
    within = entry_within z n e at

    since : entry_since z n ≡ e.since
    since = since_is z n e at

    offset_is : (t : ℤ) (k : ℕ) → IsPlace z t k → (offset_at z t).offset ≡ before_offset z k
    offset_is t k place = ap (λ (o : Offset). o.offset) (offset_there z t k place) ∙ sym (before_is z k)

    by : (before_offset z n ≡ before_offset z (suc n)) ⊎ (before_offset z n ≡ before_offset z (suc n) → ⊥)
        → (offset_at z (e.since -ℤ pos 1) ≡ before_entry z n) × (offset_at z e.since ≡ offset_of e)
    by (inl same) =
        let chain = lawful_chain z lawful in
        let p = place_of chain (e.since -ℤ pos 1) in
        let q = place_of chain e.since in
        let flat_there = unchanged chain n p.0 q.0 within same (rw since p.1) (rw since q.1) in
        absurd (differ (offset_is _ p.0 p.1 ∙ flat_there ∙ sym (offset_is _ q.0 q.1)))
    by (inr changes) =
        let before : IsPlace z (e.since -ℤ pos 1) n = rw (← since) (just_before (lawful_chain z lawful) n within changes) in
        let from : IsPlace z e.since (suc n) = rw (← since) (from_then (lawful_chain z lawful) n within changes) in
        (offset_there z _ n before, offset_there z _ (suc n) from ∙ before_next z n e at)

-- the entry that an answer names
pub record IsSidesOf (z : PlainZone) (before after : Offset) (transition : ℤ) (n : ℕ) (e : Transition) : Type 0 where
  pub at : entry_at z n ≡ Some e
  pub since : e.since ≡ transition
  pub before_is : before ≡ before_entry z n
  pub after_is : after ≡ offset_of e

pub sides_of : (z : PlainZone) (before after : Offset) (transition : ℤ) → IsLawful z → IsBetween z before after transition → (before.offset ≡ after.offset → ⊥)
    → (n : ℕ) × (e : Transition) × IsSidesOf z before after transition n e
sides_of z before after transition lawful between differ = (n, e, record { at = at; since = since; before_is = before_it ∙ both.0; after_is = from_it ∙ both.1 })
  where
    n : ℕ
    n = between.entry.0

    e : Transition
    e = between.entry.1

    at : entry_at z n ≡ Some e
    at = between.entry.2

    since : e.since ≡ transition
    since = between.entry.3

    before_it : before ≡ offset_at z (e.since -ℤ pos 1)
    before_it = rw since between.before_it

    from_it : after ≡ offset_at z e.since
    from_it = rw since between.from_it

    both : (offset_at z (e.since -ℤ pos 1) ≡ before_entry z n) × (offset_at z e.since ≡ offset_of e)
    both = sides z n e lawful at (λ same. differ (ap (λ (o : Offset). o.offset) before_it ∙ same ∙ sym (ap (λ (o : Offset). o.offset) from_it)))

-- ---- placed

once_placed : (z : PlainZone) (w t : ℤ) (o : Offset) → IsShownOnce z w t → o ≡ offset_at z t → IsPlaced z w (w -ℤ o.offset)
once_placed z w t o once is =
    let there : w -ℤ o.offset ≡ t = (let sum = once.shows in rw is (omega (arith, ints, sum))) in
    rw there (inl (record { shows = once.shows; first = λ u shows. let same = once.only u shows in omega (arith, ints, same) }))

fold_placed : (z : PlainZone) (w : ℤ) (n : ℕ) → IsLawful z → IsFoldOf z w n → IsPlaced z w (w -ℤ (before_entry z n).offset)
fold_placed z w n lawful fold = inl (rw (before_is z n) at (earlier (fold_repeated z w n lawful fold).twice))
  where
    earlier : IsShownTwice z w (w -ℤ before_offset z n) (w -ℤ before_offset z (suc n)) → IsFirstShown z w (w -ℤ before_offset z n)
    earlier two = record { shows = two.earlier; first = first }
      where
        first : (u : ℤ) → Shows z u w → (w -ℤ before_offset z n) ≤ℤ u
        first u shows = elim (two.only u shows) as (λ _. (w -ℤ before_offset z n) ≤ℤ u) [
          | inl here ↦ omega (arith, ints, here)
          | inr there ↦ (let order = two.order in omega (arith, ints, there, order))
        ]

gap_placed : (z : PlainZone) (w : ℤ) (n : ℕ) → IsLawful z → IsGapOf z w n → IsPlaced z w (w -ℤ (before_entry z n).offset)
gap_placed z w n lawful gap = inr (n, gap_skipped z w n lawful gap, refl)

between_placed : (z : PlainZone) (w : ℤ) (before after : Offset) (transition : ℤ) (n : ℕ) (e : Transition) → IsLawful z → IsSidesOf z before after transition n e
    → (((transition +ℤ after.offset) ≤ℤ w) × (w <ℤ (transition +ℤ before.offset))) ⊎ (((transition +ℤ before.offset) ≤ℤ w) × (w <ℤ (transition +ℤ after.offset)))
    → IsPlaced z w (w -ℤ before.offset)
between_placed z w before after transition n e lawful h walls = rw h.before_is (by walls)
  where
    old : before.offset ≡ (before_entry z n).offset
    old = ap (λ (o : Offset). o.offset) h.before_is

    new : after.offset ≡ e.offset
    new = ap (λ (o : Offset). o.offset) h.after_is

    since : e.since ≡ transition
    since = h.since

    by : (((transition +ℤ after.offset) ≤ℤ w) × (w <ℤ (transition +ℤ before.offset))) ⊎ (((transition +ℤ before.offset) ≤ℤ w) × (w <ℤ (transition +ℤ after.offset)))
        → IsPlaced z w (w -ℤ (before_entry z n).offset)
    by (inl fold) = fold_placed z w n lawful (e, h.at, rw (since, ← new) fold.0, rw (since, ← old) fold.1)
    by (inr gap) = gap_placed z w n lawful (e, h.at, rw (since, ← old) gap.0, rw (since, ← new) gap.1)

pub answers-place : (z : PlainZone) (w : ℤ) (answer : PossibleOffset) → IsLawful z → AnswersWall z w answer → IsPlaced z w (w -ℤ (placing answer).offset)
answers-place z w (possible.Single o) lawful h = once_placed z w h.0 o h.1 h.2
answers-place z w (possible.Ambiguous before after transition) lawful h =
    let new = h.4 in
    let old = h.5 in
    let found = sides_of z before after transition lawful h.3 (λ same. omega (arith, ints, new, old, same)) in
    between_placed z w before after transition found.0 found.1 lawful found.2 (inl (new, old))
answers-place z w (possible.None before after transition) lawful h =
    let old = h.2 in
    let new = h.3 in
    let found = sides_of z before after transition lawful h.1 (λ same. omega (arith, ints, new, old, same)) in
    between_placed z w before after transition found.0 found.1 lawful found.2 (inr (old, new))
