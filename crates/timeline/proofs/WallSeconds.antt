-- In a lawful zone a wall second is shown by one second; or by two, on the two sides of one entry; or by none, in one gap.
use Rattle.std.proofs.Common.{◌≡◌, ℕ, zero, suc, ◌<◌, ◌≤◌, ◌⊎◌, inl, inr, Some, ℤ, ◌+ℤ◌, ◌-ℤ◌, ◌<ℤ◌, ◌≤ℤ◌, refl, sym, ap, ◌∙◌, arith}
use Rattle.std.proofs.lemmas.Int.{ints}
use Rattle.std.proofs.lemmas.Bool.{cases_lt, cases_order}
use Rattle.timeline.specs.declared.offset.Offset.{Offset}
use Rattle.timeline.specs.declared.offset.Transition.{Transition}
use Rattle.timeline.specs.Zone.{PlainZone}
use Rattle.timeline.specs.Timeline.{Holds, first, entry, entry_at, before_entry, offset_at, offset_of}
use Rattle.timeline.specs.ShownWalls.{Shows, IsNeverShown, IsShownOnce}
use Rattle.timeline.specs.Placement.{IsGapOf, IsFoldOf, IsInNoGap, IsSkippedAt, IsAcross, IsRepeatedAt, IsPlaced, Showing, once, twice, never}
use Rattle.timeline.specs.Lookups.{LieAround}
use Rattle.timeline.specs.Laws.{IsLawful}
use Rattle.timeline.specs.Neighbours.{Step}
use Rattle.timeline.proofs.Entries.{last-holds}
use Rattle.timeline.proofs.Chain.{IsAt, step_at, place_of}
use Rattle.timeline.proofs.ChainWalls.{Skips, Repeats, not_behind, not_ahead, LiesBetween, LiesAround, around_gap, around_fold, ShowsAfter, between_shown, between_only, gap_never, fold_earlier, fold_later, fold_only, WallPlace, in_between, in_gap, in_fold, wall_place}
use Rattle.timeline.proofs.TimelineEntries.{entry_count, entry_within, entry_there, before_next}
use Rattle.timeline.proofs.TimelineRises.{entry_since, before_offset, since_is, before_is, step_of, step_is, lawful_chain}

-- ---- what is in force

-- the first k entries are not after t, and the others are
abbrev pub IsPlace : PlainZone → ℤ → ℕ → Type 0
IsPlace z t k = IsAt (entry_count z) (entry_since z) t k

-- then what holds before the kth holds at t
pub offset_there : (z : PlainZone) (t : ℤ) (k : ℕ) → IsPlace z t k → offset_at z t ≡ before_entry z k
offset_there z t k place = by (offset_at z t) (last-holds z t)
  where
    after : (n : ℕ) (e : Transition) → entry_at z n ≡ Some e → k ≤ n → t <ℤ e.since
    after n e at from = let ahead = place.ahead n from (entry_within z n e at) in rw (← since_is z n e at) ahead

    until : (n : ℕ) → n < k → (e : Transition) × (entry_at z n ≡ Some e) × (e.since ≤ℤ t)
    until n lt =
        let there = entry_there z n (let within = place.within in omega arith) in
        let passed = place.passed n lt in
        (there.0, there.1, rw (since_is z n there.0 there.1) at passed)

    none : (l : ℕ) → l ≡ k → ((n : ℕ) (e : Transition) → entry_at z n ≡ Some e → t <ℤ e.since) → l ≡ 0
    none zero same all = refl
    none (suc j) same all =
        let there = until j (omega arith) in
        let late = all j there.0 there.1 in
        let early = there.2 in
        absurd (omega (arith, ints, late, early))

    last : (n : ℕ) (e : Transition) → entry_at z n ≡ Some e → e.since ≤ℤ t → ((m : ℕ) (f : Transition) → entry_at z m ≡ Some f → f.since ≤ℤ t → m ≤ n) → k ≡ suc n
    last n e at le others = by (cases_order k (suc n))
      where
        by : (k ≡ suc n) ⊎ ((k < suc n) ⊎ (suc n < k)) → k ≡ suc n
        by (inl same) = same
        by (inr (inl less)) = let late = after n e at (omega arith) in absurd (omega (arith, ints, late, le))
        by (inr (inr more)) = let there = until (suc n) more in let most = others (suc n) there.0 there.1 there.2 in absurd (omega (arith, most))

    by : (o : Offset) → Holds z t o → o ≡ before_entry z k
    by _ (first all) = let at_start = none k refl all in rw at_start refl
    by _ (entry n e at le others) = let at_next = last n e at le others in rw at_next (sym (before_next z n e at))

pub shows_after : (z : PlainZone) (w t : ℤ) → IsLawful z → Shows z t w → (k : ℕ) × ShowsAfter (entry_count z) (entry_since z) (before_offset z) w t k
shows_after z w t lawful shows =
    let place = place_of (lawful_chain z lawful) t in
    let there = ap (λ (o : Offset). o.offset) (offset_there z t place.0 place.1) in
    (place.0, record { at = place.1; shows = rw (before_is z place.0, ← there) shows })

pub after_shows : (z : PlainZone) (w t : ℤ) (k : ℕ) → ShowsAfter (entry_count z) (entry_since z) (before_offset z) w t k → Shows z t w
after_shows z w t k h =
    let there = ap (λ (o : Offset). o.offset) (offset_there z t k h.at) in
    let shows = h.shows in
    rw (there, ← before_is z k) shows

-- ---- gaps and folds

abbrev pub step_in : PlainZone → ℕ → Step
step_in z n = step_at (entry_since z) (before_offset z) n

pub gap_skips : (z : PlainZone) (w : ℤ) (n : ℕ) → IsGapOf z w n → Skips w (step_in z n)
gap_skips z w n gap = rw (step_is z n gap.0 gap.1) (record { old = gap.2; new = gap.3 })

pub skips_gap : (z : PlainZone) (w : ℤ) (n : ℕ) → n < entry_count z → Skips w (step_in z n) → IsGapOf z w n
skips_gap z w n lt skips =
    let e = entry_there z n lt in
    let h : Skips w (step_of z n e.0) = rw (step_is z n e.0 e.1) at skips in
    (e.0, e.1, h.old, h.new)

pub fold_repeats : (z : PlainZone) (w : ℤ) (n : ℕ) → IsFoldOf z w n → Repeats w (step_in z n)
fold_repeats z w n fold = rw (step_is z n fold.0 fold.1) (record { new = fold.2; old = fold.3 })

pub repeats_fold : (z : PlainZone) (w : ℤ) (n : ℕ) → n < entry_count z → Repeats w (step_in z n) → IsFoldOf z w n
repeats_fold z w n lt repeats =
    let e = entry_there z n lt in
    let h : Repeats w (step_of z n e.0) = rw (step_is z n e.0 e.1) at repeats in
    (e.0, e.1, h.new, h.old)

-- the entries before the kth are behind w, and those from it on ahead of it; or those after it
abbrev pub IsClear : PlainZone → ℤ → ℕ → Type 0
IsClear z w k = LiesBetween (entry_count z) (entry_since z) (before_offset z) w k

abbrev pub IsAlone : PlainZone → ℤ → ℕ → Type 0
IsAlone z w k = LiesAround (entry_count z) (entry_since z) (before_offset z) w k

pub gap_alone : (z : PlainZone) (w : ℤ) (n : ℕ) → IsLawful z → IsGapOf z w n → IsAlone z w n
gap_alone z w n lawful gap = around_gap (lawful_chain z lawful) w n (entry_within z n gap.0 gap.1) (gap_skips z w n gap)

pub fold_alone : (z : PlainZone) (w : ℤ) (n : ℕ) → IsLawful z → IsFoldOf z w n → IsAlone z w n
fold_alone z w n lawful fold = around_fold (lawful_chain z lawful) w n (entry_within z n fold.0 fold.1) (fold_repeats z w n fold)

not_repeated_and_skipped : (w : ℤ) (s : Step) → Skips w s → Repeats w s → ⊥
not_repeated_and_skipped w s skips repeats = let here = skips.old in let there = repeats.old in omega (arith, ints, here, there)

-- no other entry is a gap
pub clear_no_gap : (z : PlainZone) (w : ℤ) (k : ℕ) → IsClear z w k → IsInNoGap z w
clear_no_gap z w k h n gap = by (cases_lt n k)
  where
    by : (n < k) ⊎ (k ≤ n) → ⊥
    by (inl lt) = not_behind w _ (h.passed n lt) (inl (gap_skips z w n gap))
    by (inr from) = not_ahead w _ (h.coming n from (entry_within z n gap.0 gap.1)) (inl (gap_skips z w n gap))

pub alone_gap : (z : PlainZone) (w : ℤ) (k n : ℕ) → IsAlone z w k → IsGapOf z w n → n ≡ k
alone_gap z w k n h gap = by (cases_order n k)
  where
    by : (n ≡ k) ⊎ ((n < k) ⊎ (k < n)) → n ≡ k
    by (inl same) = same
    by (inr (inl less)) = absurd (not_behind w _ (h.passed n less) (inl (gap_skips z w n gap)))
    by (inr (inr more)) = absurd (not_ahead w _ (h.coming n more (entry_within z n gap.0 gap.1)) (inl (gap_skips z w n gap)))

-- ---- shown once

pub clear_once : (z : PlainZone) (w : ℤ) (k : ℕ) → IsLawful z → IsClear z w k → IsShownOnce z w (w -ℤ before_offset z k)
clear_once z w k lawful h = record { shows = after_shows z w _ k (between_shown (lawful_chain z lawful) w k h); only = only }
  where
    only : (u : ℤ) → Shows z u w → u ≡ w -ℤ before_offset z k
    only u shows =
        let after = shows_after z w u lawful shows in
        let place = between_only w u k after.0 h after.1 in
        let sum : (u +ℤ before_offset z k) ≡ w = rw (← place) after.1.shows in
        omega (arith, ints, sum)

-- ---- never shown

pub gap_never_shown : (z : PlainZone) (w : ℤ) (n : ℕ) → IsLawful z → IsGapOf z w n → IsNeverShown z w
gap_never_shown z w n lawful gap u shows =
    let after = shows_after z w u lawful shows in
    gap_never w u n after.0 (gap_alone z w n lawful gap) (gap_skips z w n gap) after.1

pub gap_skipped : (z : PlainZone) (w : ℤ) (n : ℕ) → IsLawful z → IsGapOf z w n → IsSkippedAt z w n
gap_skipped z w n lawful gap = record {
  never = gap_never_shown z w n lawful gap;
  gap = gap;
  only = λ m gap_m. alone_gap z w n m (gap_alone z w n lawful gap) gap_m;
}

-- ---- shown twice

-- a second before the nth entry and after all those before it, and one from the nth entry on and before all those after it
across_one : (z : PlainZone) (t u : ℤ) (n m : ℕ) → IsPlace z t n → IsPlace z u (suc n) → IsAcross z t u m → m ≡ n
across_one z t u n m at_t at_u across = by (cases_order m n)
  where
    since : entry_since z m ≡ across.0.since
    since = since_is z m across.0 across.1

    within : m < entry_count z
    within = entry_within z m across.0 across.1

    by : (m ≡ n) ⊎ ((m < n) ⊎ (n < m)) → m ≡ n
    by (inl same) = same
    by (inr (inl less)) = let passed = rw since at (at_t.passed m less) in let late = across.2 in absurd (omega (arith, ints, passed, late))
    by (inr (inr more)) = let ahead = rw since at (at_u.ahead m (omega arith) within) in let early = across.3 in absurd (omega (arith, ints, ahead, early))

pub fold_repeated : (z : PlainZone) (w : ℤ) (n : ℕ) → IsLawful z → IsFoldOf z w n → IsRepeatedAt z w (w -ℤ before_offset z n) (w -ℤ before_offset z (suc n)) n
fold_repeated z w n lawful fold = record {
  twice = record {
    earlier = after_shows z w _ n earlier;
    later = after_shows z w _ (suc n) later;
    order = (let below = across.2 in let from = across.3 in omega (arith, ints, below, from));
    only = only;
  };
  across = across;
  only = λ m across_m. across_one z _ _ n m earlier.at later.at across_m;
}
  where
    alone : IsAlone z w n
    alone = fold_alone z w n lawful fold

    earlier : ShowsAfter (entry_count z) (entry_since z) (before_offset z) w (w -ℤ before_offset z n) n
    earlier = fold_earlier (lawful_chain z lawful) w n alone (fold_repeats z w n fold)

    later : ShowsAfter (entry_count z) (entry_since z) (before_offset z) w (w -ℤ before_offset z (suc n)) (suc n)
    later = fold_later (lawful_chain z lawful) w n alone (fold_repeats z w n fold)

    across : IsAcross z (w -ℤ before_offset z n) (w -ℤ before_offset z (suc n)) n
    across =
        let since = since_is z n fold.0 fold.1 in
        (fold.0, fold.1, rw (← since) (earlier.at.ahead n (omega arith) (entry_within z n fold.0 fold.1)), rw (← since) (later.at.passed n (omega arith)))

    sum_at : (u : ℤ) (k l : ℕ) → ShowsAfter (entry_count z) (entry_since z) (before_offset z) w u l → l ≡ k → u ≡ w -ℤ before_offset z k
    sum_at u k l h place = let sum : (u +ℤ before_offset z k) ≡ w = rw (← place) h.shows in omega (arith, ints, sum)

    only : (v : ℤ) → Shows z v w → (v ≡ w -ℤ before_offset z n) ⊎ (v ≡ w -ℤ before_offset z (suc n))
    only v shows =
        let after = shows_after z w v lawful shows in
        elim (fold_only w v n after.0 alone after.1) as (λ _. (v ≡ w -ℤ before_offset z n) ⊎ (v ≡ w -ℤ before_offset z (suc n))) [
          | inl here ↦ inl (sum_at v n after.0 after.1 here)
          | inr next ↦ inr (sum_at v (suc n) after.0 after.1 next)
        ]

-- what holds at the two
pub fold_sides : (z : PlainZone) (w : ℤ) (n : ℕ) (e : Transition) → IsLawful z → entry_at z n ≡ Some e → IsFoldOf z w n
    → LieAround z (before_entry z n) (offset_of e) e.since (w -ℤ before_offset z n) (w -ℤ before_offset z (suc n))
fold_sides z w n e lawful at fold = record {
  before_is = sym (offset_there z _ n earlier.at);
  after_is = sym (before_next z n e at) ∙ sym (offset_there z _ (suc n) later.at);
  earlier = rw (← since) (earlier.at.ahead n (omega arith) (entry_within z n e at));
  later = rw (← since) (later.at.passed n (omega arith));
}
  where
    since : entry_since z n ≡ e.since
    since = since_is z n e at

    alone : IsAlone z w n
    alone = fold_alone z w n lawful fold

    earlier : ShowsAfter (entry_count z) (entry_since z) (before_offset z) w (w -ℤ before_offset z n) n
    earlier = fold_earlier (lawful_chain z lawful) w n alone (fold_repeats z w n fold)

    later : ShowsAfter (entry_count z) (entry_since z) (before_offset z) w (w -ℤ before_offset z (suc n)) (suc n)
    later = fold_later (lawful_chain z lawful) w n alone (fold_repeats z w n fold)

pub fold_no_gap : (z : PlainZone) (w : ℤ) (n : ℕ) → IsLawful z → IsFoldOf z w n → IsInNoGap z w
fold_no_gap z w n lawful fold m gap =
    let same = alone_gap z w n m (fold_alone z w n lawful fold) gap in
    let skips : Skips w (step_in z n) = rw same at (gap_skips z w m gap) in
    not_repeated_and_skipped w _ skips (fold_repeats z w n fold)

-- ---- the law

pub showing : (z : PlainZone) (w : ℤ) → IsLawful z → Showing z w
showing z w lawful = by (wall_place (lawful_chain z lawful) w)
  where
    by : WallPlace (entry_count z) (entry_since z) (before_offset z) w → Showing z w
    by (in_between k h) = once _ (clear_once z w k lawful h) (clear_no_gap z w k h)
    by (in_gap k lt h) = never k (gap_skipped z w k lawful (skips_gap z w k lt h))
    by (in_fold k lt h) =
        let fold = repeats_fold z w k lt h in
        twice _ _ k (fold_repeated z w k lawful fold) (fold_no_gap z w k lawful fold)

-- ---- so each wall second has a place

pub each-placed : (z : PlainZone) (w : ℤ) → IsLawful z → (s : ℤ) × IsPlaced z w s
each-placed z w lawful = by (showing z w lawful)
  where
    by : Showing z w → (s : ℤ) × IsPlaced z w s
    by (once t h no_gap) = (t, inl (record { shows = h.shows; first = λ u shows. let same = h.only u shows in omega (arith, ints, same) }))
    by (twice t u n h no_gap) = (
      t,
      inl (record {
        shows = h.twice.earlier;
        first = λ v shows. elim (h.twice.only v shows) as (λ _. t ≤ℤ v) [
          | inl here ↦ omega (arith, ints, here)
          | inr there ↦ (let order = h.twice.order in omega (arith, ints, there, order))
        ];
      }),
    )
    by (never n h) = (w -ℤ (before_entry z n).offset, inr (n, h, refl))
