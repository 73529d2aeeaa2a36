-- In a lawful zone gaps by entries are gaps by seconds, so that what a look-up answers counts the seconds as `zoned` says it.
use Rattle.std.proofs.Common.{◌≡◌, ℕ, inl, inr, Option, Some, None, IfSome, is_some, IsTrue, rules, ℤ, pos, ◌-ℤ◌, ◌↔◌, refl, sym, ap, ◌∙◌, subst, arith}
use Rattle.std.proofs.lemmas.Int.{ints, clamps}
use Rattle.civil.specs.Shown.{IsNeverShown}
use Rattle.zoned.specs.declared.offset.CivilOffset.{CivilOffset}
use Rattle.zoned.specs.declared.offset.CivilOffset.TheVariants as Civil
use Rattle.zoned.specs.CivilAnswers.{IsCivil, civil_map, mapped_of}
use Rattle.zoned.specs.Placing.{IsGap, IsSkippedAt, IsPlaced}
use Rattle.timeline.specs.declared.offset.Offset.{Offset}
use Rattle.timeline.specs.declared.offset.Transition.{Transition}
use Rattle.timeline.specs.declared.offset.PossibleOffset.{PossibleOffset}
use Rattle.timeline.specs.declared.offset.PossibleOffset.TheVariants as possible
use Rattle.timeline.specs.Zone.{PlainZone}
use Rattle.timeline.specs.Timeline.{entry_at, before_entry, offset_at}
use Rattle.timeline.specs.Placement.{IsGapOf}
use Rattle.timeline.specs.ShownWalls.{seconds_at}
use Rattle.timeline.specs.Placement as entries
use Rattle.timeline.specs.Laws.{IsLawful}
use Rattle.timeline.specs.TableLaws.{IsSmall}
use Rattle.timeline.specs.Lookups.{AnswersWall}
use Rattle.timeline.specs.OffsetPromises.{AreSides}
use Rattle.zoneinfo64.specs.OffsetView.{cut_to_day, offset_told, seconds_told}
use Rattle.zoneinfo64.specs.ShownOffsets.{shown_offsets}
use Rattle.zoneinfo64.specs.declared.chrono.ChronoOffset.{ChronoOffset}
use Rattle.zoneinfo64.specs.ZoneOffsets.{off_in}
use Rattle.zoneinfo64.specs.Inside.CivilView.{civil_of}
use Rattle.zoneinfo64.specs.Inside.LawsBelow.{LawsBelow}
use Rattle.zoneinfo64.proofs.ShownOnce.{shown-offsets}

same_entry : (z : PlainZone) (m n : ℕ) (e f : Transition) → m ≡ n → entry_at z m ≡ Some e → entry_at z n ≡ Some f → e.since ≡ f.since
same_entry z m n e f same at_e at_f =
    let both : Some e ≡ Some f = sym at_e ∙ ap (entry_at z) same ∙ at_f in
    let is : e ≡ f = cc both in
    ap (λ (g : Transition). g.since) is

-- an offset of less than a day is not cut
pub uncut : (x : ℤ) → IsSmall x → cut_to_day x ≡ x
uncut x small = let low = small.0 in let high = small.1 in omega (arith, ints, clamps, low, high)

abbrev pub cut_seconds : Offset → ℤ
cut_seconds o = cut_to_day o.offset

told_cut : (r : CivilOffset ChronoOffset) → civil_map seconds_told r ≡ civil_map cut_seconds (civil_map offset_told r)
told_cut (Civil.Single o) = refl
told_cut (Civil.Ambiguous b a) = refl
told_cut (Civil.Gap b a) = refl

module _ (laws : LawsBelow) where
  -- ---- gaps

  -- an entry that is a gap of a wall second is the one gap of it
  only_gap : (z : PlainZone) (w : ℤ) (n : ℕ) → IsLawful z → IsGapOf z w n → entries.IsSkippedAt z w n
  only_gap z w n lawful gap = by (laws.shows z w lawful)
    where
      by : entries.Showing z w → entries.IsSkippedAt z w n
      by (entries.once t h clear) = absurd (clear n gap)
      by (entries.twice t u m h clear) = absurd (clear n gap)
      by (entries.never m h) = let same = h.only n gap in rw same h

  -- the offsets on its two sides
  gap_sides : (z : PlainZone) (w : ℤ) (n : ℕ) → IsLawful z → (gap : IsGapOf z w n) → AreSides z gap.0.since n gap.0
  gap_sides z w n lawful gap =
      let from = gap.2 in
      let to = gap.3 in
      laws.sides z n gap.0 lawful gap.1 (λ same. omega (arith, ints, from, to, same))

  -- a gap by an entry is one at its second
  pub gap_at_second : (z : PlainZone) (w : ℤ) (n : ℕ) → IsLawful z → (gap : IsGapOf z w n) → IsGap (seconds_at z) w gap.0.since
  gap_at_second z w n lawful gap =
      let from = gap.2 in
      let to = gap.3 in
      let both = gap_sides z w n lawful gap in
      let old = both.before in
      let new = both.after in
      record { from = omega (arith, ints, old, from); to = omega (arith, ints, new, to) }

  -- a gap by seconds is one by an entry of that second
  pub entry_of_gap : (z : PlainZone) (w u : ℤ) → IsLawful z → IsGap (seconds_at z) w u → (n : ℕ) × (gap : IsGapOf z w n) × (gap.0.since ≡ u)
  entry_of_gap z w u lawful gap = by (laws.changes z u lawful differ)
    where
      differ : seconds_at z (u -ℤ pos 1) ≡ seconds_at z u → ⊥
      differ same = let from = gap.from in let to = gap.to in omega (arith, ints, same, from, to)

      by : (n : ℕ) × (e : Transition) × AreSides z u n e → (n : ℕ) × (gap : IsGapOf z w n) × (gap.0.since ≡ u)
      by found =
          let both = found.2 in
          let since = both.since in
          let old = both.before in
          let new = both.after in
          let from = gap.from in
          let to = gap.to in
          (found.0, (found.1, both.entry, omega (arith, ints, old, since, from), omega (arith, ints, new, since, to)), since)

  -- gaps of one wall second are at one second
  pub one_gap : (z : PlainZone) (w t u : ℤ) → IsLawful z → IsGap (seconds_at z) w t → IsGap (seconds_at z) w u → u ≡ t
  one_gap z w t u lawful at_t at_u = by (entry_of_gap z w t lawful at_t) (entry_of_gap z w u lawful at_u)
    where
      by : (n : ℕ) × (gap : IsGapOf z w n) × (gap.0.since ≡ t) → (n : ℕ) × (gap : IsGapOf z w n) × (gap.0.since ≡ u) → u ≡ t
      by n m =
          let same = (only_gap z w n.0 lawful n.1).only m.0 m.1 in
          sym m.2 ∙ same_entry z m.0 n.0 m.1.0 n.1.0 same m.1.1 n.1.1 ∙ n.2

  pub skipped : (z : PlainZone) (w t : ℤ) → IsLawful z → IsNeverShown (seconds_at z) w → IsGap (seconds_at z) w t → IsSkippedAt (seconds_at z) w t
  skipped z w t lawful never gap = record { never = never; gap = gap; only = λ u at_u. one_gap z w t u lawful gap at_u }

  -- ---- placement

  -- where a lawful zone places a wall second by its entries, it places it by its seconds
  placed_by_seconds : (z : PlainZone) (w s : ℤ) → IsLawful z → entries.IsPlaced z w s → IsPlaced (seconds_at z) w s
  placed_by_seconds z w s lawful (inl h) = inl h
  placed_by_seconds z w s lawful (inr h) =
      let gap = h.1.gap in
      let both = gap_sides z w h.0 lawful gap in
      let at = h.2 in
      let old = both.before in
      inr (gap.0.since, skipped z w _ lawful h.1.never (gap_at_second z w h.0 lawful gap), omega (arith, ints, at, old))

  -- and the other way
  placed_by_entries : (z : PlainZone) (w s : ℤ) → IsLawful z → IsPlaced (seconds_at z) w s → entries.IsPlaced z w s
  placed_by_entries z w s lawful (inl h) = inl h
  placed_by_entries z w s lawful (inr h) = by (entry_of_gap z w h.0 lawful h.1.gap)
    where
      by : (n : ℕ) × (gap : IsGapOf z w n) × (gap.0.since ≡ h.0) → entries.IsPlaced z w s
      by found =
          let n = found.0 in
          let gap = found.1 in
          let both = gap_sides z w n lawful gap in
          let old : seconds_at z (h.0 -ℤ pos 1) ≡ (before_entry z n).offset = rw found.2 at both.before in
          let at = h.2 in
          inr (n, only_gap z w n lawful gap, omega (arith, ints, at, old))

  pub places_alike : (z : PlainZone) (w s : ℤ) → IsLawful z → entries.IsPlaced z w s ↔ IsPlaced (seconds_at z) w s
  places_alike z w s lawful = (placed_by_seconds z w s lawful, placed_by_entries z w s lawful)

  -- ---- answers

  uncut_told : (z : PlainZone) (t : ℤ) (o : Offset) → IsLawful z → o ≡ offset_at z t → cut_to_day o.offset ≡ o.offset
  uncut_told z t o lawful is = rw is (uncut _ (laws.small z t lawful))

  pub uncut_at : (z : PlainZone) (t : ℤ) (o : Offset) → IsLawful z → o ≡ offset_at z t → cut_to_day o.offset ≡ seconds_at z t
  uncut_at z t o lawful is = uncut_told z t o lawful is ∙ ap (λ (o : Offset). o.offset) is

  -- the answer to a wall second of a lawful zone counts the seconds that show it
  pub answers_civil : (z : PlainZone) (w : ℤ) (a : PossibleOffset) → IsLawful z → AnswersWall z w a → IsCivil (seconds_at z) w (civil_map cut_seconds (civil_of a))
  answers_civil z w (possible.Single o) lawful h = (h.0, h.1, uncut_at z h.0 o lawful h.2)
  answers_civil z w (possible.Ambiguous before after transition) lawful h =
      let two = laws.two z w before after transition lawful h in
      let between = h.3 in
      (two.0, two.1, two.2, uncut_told z _ before lawful between.before_it ∙ two.3, uncut_told z _ after lawful between.from_it ∙ two.4)
  answers_civil z w (possible.None before after transition) lawful h =
      let between = h.1 in
      let from = h.2 in
      let to = h.3 in
      let old = ap (λ (o : Offset). o.offset) between.before_it in
      let new = ap (λ (o : Offset). o.offset) between.from_it in
      let gap : IsGap (seconds_at z) w transition = record { from = omega (arith, ints, old, from); to = omega (arith, ints, new, to) } in
      (transition, skipped z w transition lawful h.0 gap, uncut_at z _ before lawful between.before_it, uncut_at z _ after lawful between.from_it)

  pub counted : (z : PlainZone) (w : ℤ) (a : PossibleOffset) (r : CivilOffset ChronoOffset) → civil_map offset_told r ≡ civil_of a → IsLawful z → AnswersWall z w a
      → IsCivil (seconds_at z) w (civil_map seconds_told r)
  counted z w a r is lawful h =
      let same = told_cut r ∙ ap (civil_map cut_seconds) is in
      subst (λ (r' : CivilOffset ℤ). IsCivil (seconds_at z) w r') (sym same) (answers_civil z w a lawful h)

  pub mapped : (z : PlainZone) (w : ℤ) (r : CivilOffset ChronoOffset) → IsLawful z → IsCivil (seconds_at z) w (civil_map seconds_told r)
      → shown_offsets (seconds_at z) w ≡ mapped_of (civil_map seconds_told r)
  mapped z w r lawful h = shown-offsets (seconds_at z) w _ (λ t. laws.small z t lawful) h

  -- ---- where the plain zone stands under `Some`

  pub counted_in : (o : Option PlainZone) (w : ℤ) (a : PossibleOffset) (r : CivilOffset ChronoOffset) → IsTrue (is_some o) → civil_map offset_told r ≡ civil_of a
      → IfSome o (λ z. IsLawful z → AnswersWall z w a) → IfSome o IsLawful → IsCivil (off_in o) w (civil_map seconds_told r)
  counted_in None w a r there is answers lawful = absurd (search rules)
  counted_in (Some z) w a r there is answers lawful = counted z w a r is lawful (answers lawful)

  pub mapped_in : (o : Option PlainZone) (w : ℤ) (r : CivilOffset ChronoOffset) → IsTrue (is_some o) → IfSome o IsLawful → IsCivil (off_in o) w (civil_map seconds_told r)
      → shown_offsets (off_in o) w ≡ mapped_of (civil_map seconds_told r)
  mapped_in None w r there lawful counts = absurd (search rules)
  mapped_in (Some z) w r there lawful counts = mapped z w r lawful counts

  pub told_in : (o : Option PlainZone) (t : ℤ) (r : Offset) → IsTrue (is_some o) → IfSome o (λ z. IsLawful z → r ≡ offset_at z t) → IfSome o IsLawful → cut_to_day r.offset ≡ off_in o t
  told_in None t r there told lawful = absurd (search rules)
  told_in (Some z) t r there told lawful = uncut_at z t r lawful (told lawful)
