-- The answers to a second: by the table, by the entries of its year, and after all years.
use Rattle.std.proofs.Common.{◌≡◌, ℕ, suc, ◌+◌, ◌-◌, ◌<◌, ◌≤◌, Bool, true, false, IsTrue, ◌⊎◌, inl, inr, length, Option, Some, None, ℤ, pos, ◌+ℤ◌, ◌<ℤ◌, ◌≤ℤ◌, refl, sym, ap, ◌∙◌, arith}
use Rattle.std.specs.Prelude.{slice_get, option_map, IfSome}
use Rattle.std.proofs.lemmas.Int.{ints}
use Rattle.std.proofs.lemmas.Bool.{cases_lt}
use Rattle.std.proofs.lemmas.Option.{slice_get_within}
use Rattle.civil.specs.Calendar.{year_second}
use Rattle.timeline.specs.declared.offset.Offset.{Offset}
use Rattle.timeline.specs.declared.offset.Transition.{Transition}
use Rattle.timeline.specs.declared.lookups.YearEntries.TheVariants as told
use Rattle.timeline.specs.Zone.{PlainZone, PlainRule}
use Rattle.timeline.specs.Rule.{first_entry, second_entry}
use Rattle.timeline.specs.Timeline.{entry_at, before_entry, offset_of, table_place}
use Rattle.timeline.specs.Laws.{IsLawful}
use Rattle.timeline.specs.TableLaws.{KeepsOrder}
use Rattle.timeline.specs.WallPromises.{IsOfYear}
use Rattle.timeline.specs.Inside.YearEntries.{entries_in, IsNearestYear, StartsInside}
use Rattle.timeline.specs.Transitions.{Counts, IsNext, AnswersNext, IsUpTo, IsPrev, AnswersPrev}
use Rattle.timeline.specs.Inside.FoundEntries.{FirstIn, FirstFrom, LastBelow}
use Rattle.timeline.specs.Inside.EntryCuts.{IsCut, IsTableCut}
use Rattle.timeline.specs.Inside.YearTransitions.{IsYearOf, year_place, is_idle}
use Rattle.timeline.proofs.Entries.{below_or_not}
use Rattle.timeline.proofs.TimelineEntries.{IsRuleYear, table_entry, first_at, second_at, is_there, entry_within}
use Rattle.timeline.proofs.TimelineRises.{if_some, before_first, before_second}
use Rattle.timeline.proofs.Years.{years_rise}
use Rattle.timeline.proofs.TimelineYears.{years_from, ends_before, starts_from, rule_of}
use Rattle.timeline.proofs.TablePlaces.{table_placed, table_rises}
use Rattle.timeline.proofs.YearEntries.{IsInRule, in_rule, in_year_of, IsPastRule, past_rule, from_year}
use Rattle.timeline.proofs.Nexts.{is_cut, answers_next, answers_prev}
use Rattle.timeline.proofs.NextYears.{idle_not, counted, NoneCounts, none_counts, first_idle, last_idle, none_past}

-- ---- by the table

not_later : (exact : Bool) (t s : ℤ) → t <ℤ s → IsUpTo exact t s → ⊥
not_later true t s lt h = omega (arith, ints, lt, h)
not_later false t s lt h = omega (arith, ints, lt, h)

earlier : (exact : Bool) (t s : ℤ) → s <ℤ t → IsUpTo exact t s
earlier true t s lt = lt
earlier false t s lt = omega (arith, ints, lt)

pub cut_by_place : (z : PlainZone) (t : ℤ) → KeepsOrder z → IsTableCut z false t (table_place z t)
cut_by_place z t order =
    let place = table_placed z t order in
    record {
      passed = λ n e at lt. place.passed n e at lt;
      ahead = λ n e at le up. not_later false t _ (place.ahead n e at le) up;
    }

-- taken exactly: nothing lies before it, the last that is not after it does, or the last that is not after it does not
pub cut_none : (z : PlainZone) (t : ℤ) (k : ℕ) → k ≡ 0 → IsTableCut z false t k → IsTableCut z true t 0
cut_none z t k none cut = record {
  passed = λ n e at lt. absurd (omega arith);
  ahead = λ n e at le up. cut.ahead n e at (omega arith) (omega (arith, ints, up));
}

since_at : (z : PlainZone) (m : ℕ) (s : ℤ) → m < length z.table → option_map (λ (e : Transition). e.since) (slice_get z.table m) ≡ Some s
    → (e : Transition) × (slice_get z.table m ≡ Some e) × (e.since ≡ s)
since_at z m s within is = let there = is_there z.table m within in (there.0, there.1, (let same : Some there.0.since ≡ Some s = rw there.1 at is in cc))

pub cut_kept : (z : PlainZone) (t s : ℤ) (k : ℕ) → KeepsOrder z → 0 < k → k ≤ length z.table → option_map (λ (e : Transition). e.since) (slice_get z.table (k - 1)) ≡ Some s → s <ℤ t
    → IsTableCut z false t k → IsTableCut z true t k
cut_kept z t s k order some within is lt cut =
    let last = since_at z (k - 1) s (omega arith) is in
    let since = last.2 in
    record {
      passed = λ n e at below. (let up = table_rises z n (k - 1) e last.0 order at last.1 (omega arith) in omega (arith, ints, up, since, lt));
      ahead = λ n e at le up. cut.ahead n e at le (omega (arith, ints, up));
    }

strictly : (z : PlainZone) (m n : ℕ) (a b : Transition) → KeepsOrder z → slice_get z.table m ≡ Some a → slice_get z.table n ≡ Some b → m < n → a.since <ℤ b.since
strictly z m n a b order at_a at_b lt =
    let next = is_there z.table (m + 1) (omega (arith, lt, slice_get_within z.table n b at_b)) in
    let one = order m a next.0 at_a next.1 in
    let up = table_rises z (m + 1) n next.0 b order next.1 at_b (omega arith) in
    omega (arith, ints, one, up)

pub cut_dropped : (z : PlainZone) (t s : ℤ) (k : ℕ) → KeepsOrder z → 0 < k → k ≤ length z.table → option_map (λ (e : Transition). e.since) (slice_get z.table (k - 1)) ≡ Some s → t ≤ℤ s
    → IsTableCut z false t k → IsTableCut z true t (k - 1)
cut_dropped z t s k order some within is le cut =
    let last = since_at z (k - 1) s (omega arith) is in
    let since = last.2 in
    let here = cut.passed (k - 1) last.0 last.1 (omega arith) in
    record {
      passed = λ n e at below. (let up = strictly z n (k - 1) e last.0 order at last.1 below in omega (arith, ints, up, here));
      ahead = λ n e at from early. (let up = table_rises z (k - 1) n last.0 e order last.1 at from in omega (arith, ints, up, since, le, early));
    }

-- before the rule, the table's cut is that of the timeline
pub cut_by_table : (z : PlainZone) (exact : Bool) (t : ℤ) (k : ℕ) → IsLawful z → IfSome z.rule (λ r. t <ℤ year_second r.first_year) → IsTableCut z exact t k → k ≤ length z.table → IsCut z exact t k
cut_by_table z exact t k lawful before cut within = record { passed = passed; ahead = ahead }
  where
    passed : (n : ℕ) (e : Transition) → entry_at z n ≡ Some e → n < k → IsUpTo exact t e.since
    passed n e at lt = cut.passed n e (sym (table_entry z n (omega arith)) ∙ at) lt

    ahead : (n : ℕ) (e : Transition) → entry_at z n ≡ Some e → k ≤ n → IsUpTo exact t e.since → ⊥
    ahead n e at le = by (cases_lt n (length z.table))
      where
        by : (n < length z.table) ⊎ (length z.table ≤ n) → IsUpTo exact t e.since → ⊥
        by (inl in_it) = cut.ahead n e (sym (table_entry z n in_it) ∙ at) le
        by (inr past) =
            let r = rule_of z n e at past in
            let less = if_some (λ r. t <ℤ year_second r.first_year) z.rule r.0 r.1 before in
            let up = years_rise r.0.first_year (r.0.first_year +ℤ pos 0) (omega (arith, ints)) in
            let start = (starts_from z r.0 0 n e lawful r.1 at (omega arith)).since in
            not_later exact t e.since (omega (arith, ints, less, up, start))

-- the first that counts in the table, or else of the rule
pub first_in_both : (z : PlainZone) (change : Bool) (k : ℕ) (e : Transition) → FirstIn z change k (length z.table) (Some e) → FirstFrom z change k (Some e)
first_in_both z change k e h = (
  h.0,
  record {
    counts = h.1.counts;
    low = h.1.low;
    first = λ m f from counts. by m f from counts (cases_lt m (length z.table));
  },
)
  where
    by : (m : ℕ) (f : Transition) → k ≤ m → Counts z change m f → (m < length z.table) ⊎ (length z.table ≤ m) → h.0 ≤ m
    by m f from counts (inl in_it) = h.1.first m f from in_it counts
    by m f from counts (inr past) = let high = h.1.high in omega arith

pub first_past_table : (z : PlainZone) (change : Bool) (k : ℕ) (o : Option Transition) → k ≤ length z.table → FirstIn z change k (length z.table) None → FirstFrom z change (length z.table) o → FirstFrom z change k o
first_past_table z change k None within none h = λ m f from counts. by m f from counts (cases_lt m (length z.table))
  where
    by : (m : ℕ) (f : Transition) → k ≤ m → Counts z change m f → (m < length z.table) ⊎ (length z.table ≤ m) → ⊥
    by m f from counts (inl in_it) = none m f from in_it counts
    by m f from counts (inr past) = h m f past counts
first_past_table z change k (Some e) within none h = let low = h.1.low in (
  h.0,
  record {
    counts = h.1.counts;
    low = omega arith;
    first = λ m f from counts. by m f from counts (cases_lt m (length z.table));
  },
)
  where
    by : (m : ℕ) (f : Transition) → k ≤ m → Counts z change m f → (m < length z.table) ⊎ (length z.table ≤ m) → h.0 ≤ m
    by m f from counts (inl in_it) = absurd (none m f from in_it counts)
    by m f from counts (inr past) = h.1.first m f past counts

-- ---- by a year's entries

-- the second t lies in the jth year of the rule, whose entries these are
pub record IsInYear (z : PlainZone) (t : ℤ) (held : Offset) (first second : Transition) (r : PlainRule) (j : ℕ) : Type 0 where
  pub year : IsRuleYear z r j
  pub of : IsOfYear (r.first_year +ℤ pos j) t
  pub held_is : held ≡ offset_of (second_entry r (r.first_year +ℤ pos j))
  pub first_is : first ≡ first_entry r (r.first_year +ℤ pos j)
  pub second_is : second ≡ second_entry r (r.first_year +ℤ pos j)

pub in_year : (z : PlainZone) (y t : ℤ) (held : Offset) (first second : Transition) → IsNearestYear y t → StartsInside z.rule → told.Rule held first second ≡ entries_in z.rule y
    → (r : PlainRule) × (j : ℕ) × ((r.first_year +ℤ pos j) ≡ y) × IsInYear z t held first second r j
in_year z y t held first second near starts is = by (in_rule z.rule y held first second is)
  where
    by : (r : PlainRule) × IsInRule z.rule y held first second r → (r : PlainRule) × (j : ℕ) × ((r.first_year +ℤ pos j) ≡ y) × IsInYear z t held first second r j
    by found =
        let h = found.1 in
        let of = in_year_of z.rule y t found.0 h.rule near starts h.from h.below in
        let j = years_from found.0.first_year y h.from in (
          found.0,
          j.0,
          j.1,
          record {
            year = record { rule = h.rule; below = rw j.1 h.below };
            of = rw j.1 of;
            held_is = rw j.1 h.before_is;
            first_is = rw j.1 h.first_is;
            second_is = rw j.1 h.second_is;
          },
        )

at_first : (z : PlainZone) (t : ℤ) (held : Offset) (first second : Transition) (r : PlainRule) (j : ℕ) → IsInYear z t held first second r j → entry_at z (year_place z j) ≡ Some first
at_first z t held first second r j h = rw h.first_is (first_at z r j _ h.year refl)

at_second : (z : PlainZone) (t : ℤ) (held : Offset) (first second : Transition) (r : PlainRule) (j : ℕ) → IsInYear z t held first second r j → entry_at z (suc (year_place z j)) ≡ Some second
at_second z t held first second r j h = rw h.second_is (second_at z r j _ h.year refl)

held_before : (z : PlainZone) (t : ℤ) (held : Offset) (first second : Transition) (r : PlainRule) (j : ℕ) → IsLawful z → IsInYear z t held first second r j → held ≡ before_entry z (year_place z j)
held_before z t held first second r j lawful h = h.held_is ∙ sym (before_first z r j _ lawful h.year refl)

-- where the year's entries count
first_counts : (z : PlainZone) (t : ℤ) (held : Offset) (first second : Transition) (r : PlainRule) (j : ℕ) (change : Bool) → IsLawful z → IsInYear z t held first second r j
    → is_idle change held first ≡ false → Counts z change (year_place z j) first
first_counts z t held first second r j change lawful h moves =
    counted z change _ held first (held_before z t held first second r j lawful h) (at_first z t held first second r j h) moves

second_counts : (z : PlainZone) (t : ℤ) (held : Offset) (first second : Transition) (r : PlainRule) (j : ℕ) (change : Bool) → IsInYear z t held first second r j
    → is_idle change held first ≡ false → Counts z change (suc (year_place z j)) second
second_counts z t held first second r j change h moves = record { entry = at_second z t held first second r j h; changes = changes }
  where
    before : before_entry z (suc (year_place z j)) ≡ offset_of first
    before = before_second z r j _ h.year refl ∙ ap offset_of (sym h.first_is)

    back : held.offset ≡ second.offset
    back = ap (λ (o : Offset). o.offset) h.held_is ∙ ap (λ (e : Transition). e.offset) (sym h.second_is)

    changes : IsTrue change → (before_entry z (suc (year_place z j))).offset ≡ second.offset → ⊥
    changes asked same = idle_not change held first moves asked (back ∙ sym same ∙ ap (λ (o : Offset). o.offset) before)

-- the cuts of the year
is_same : (z : PlainZone) (m n : ℕ) (e f : Transition) → m ≡ n → entry_at z m ≡ Some e → entry_at z n ≡ Some f → f ≡ e
is_same z m n e f same at at' = cc

up_of : (exact : Bool) (t : ℤ) (e f : Transition) → f ≡ e → IsUpTo exact t f.since → IsUpTo exact t e.since
up_of exact t e f same h = rw (← same) h

not_up_of : (exact : Bool) (t : ℤ) (e f : Transition) → f ≡ e → (IsUpTo exact t f.since → ⊥) → IsUpTo exact t e.since → ⊥
not_up_of exact t e f same h = rw (← same) h

pub cut_first : (z : PlainZone) (exact : Bool) (t : ℤ) (held : Offset) (first second : Transition) (r : PlainRule) (j : ℕ) → IsLawful z → IsInYear z t held first second r j
    → (IsUpTo exact t first.since → ⊥) → IsCut z exact t (year_place z j)
cut_first z exact t held first second r j lawful h late =
    is_cut z exact t (year_place z j) lawful
    (λ n e next at. (let ends = (ends_before z r j n e lawful h.year.rule at (omega arith)).since in let low = h.of.from in earlier exact t _ (omega (arith, ints, ends, low))))
    (λ e at. not_up_of exact t e first (is_same z _ _ e first refl at (at_first z t held first second r j h)) late)
    (let within = entry_within z _ _ (at_first z t held first second r j h) in omega (arith, within))

pub cut_second : (z : PlainZone) (exact : Bool) (t : ℤ) (held : Offset) (first second : Transition) (r : PlainRule) (j : ℕ) → IsLawful z → IsInYear z t held first second r j
    → IsUpTo exact t first.since → (IsUpTo exact t second.since → ⊥) → IsCut z exact t (suc (year_place z j))
cut_second z exact t held first second r j lawful h early late =
    is_cut z exact t (suc (year_place z j)) lawful
    (λ n e next at. up_of exact t e first (is_same z n (year_place z j) e first (omega arith) at (at_first z t held first second r j h)) early)
    (λ e at. not_up_of exact t e second (is_same z _ _ e second refl at (at_second z t held first second r j h)) late)
    (let within = entry_within z _ _ (at_second z t held first second r j h) in omega (arith, within))

pub cut_past : (z : PlainZone) (exact : Bool) (t : ℤ) (held : Offset) (first second : Transition) (r : PlainRule) (j : ℕ) → IsLawful z → IsInYear z t held first second r j
    → IsUpTo exact t second.since → IsCut z exact t (suc (suc (year_place z j)))
cut_past z exact t held first second r j lawful h early =
    is_cut z exact t (suc (suc (year_place z j))) lawful
    (λ n e next at. up_of exact t e second (is_same z n (suc (year_place z j)) e second (omega arith) at (at_second z t held first second r j h)) early)
    (λ e at.
    let up = years_rise (r.first_year +ℤ pos j +ℤ pos 1) (r.first_year +ℤ pos (suc j)) (omega (arith, ints)) in
    let to = h.of.to in
    let start = (starts_from z r (suc j) _ e lawful h.year.rule at (omega arith)).since in
    not_later exact t e.since (omega (arith, ints, up, to, start)))
    (let within = entry_within z _ _ (at_second z t held first second r j h) in omega (arith, within))

up_or_not : (exact : Bool) (t s : ℤ) → IsUpTo exact t s ⊎ (IsUpTo exact t s → ⊥)
up_or_not true t s = elim (below_or_not s t) as (λ _. IsUpTo true t s ⊎ (IsUpTo true t s → ⊥)) [ inl lt ↦ inl lt | inr le ↦ inr (λ lt. omega (arith, ints, lt, le)) ]
up_or_not false t s = elim (below_or_not t s) as (λ _. IsUpTo false t s ⊎ (IsUpTo false t s → ⊥)) [ inl lt ↦ inr (λ le. omega (arith, ints, lt, le)) | inr le ↦ inl le ]

-- there is a cut in the year, wherever it is
pub some_cut : (z : PlainZone) (exact : Bool) (t : ℤ) (held : Offset) (first second : Transition) (r : PlainRule) (j : ℕ) → IsLawful z → IsInYear z t held first second r j
    → (k : ℕ) × IsCut z exact t k × (year_place z j ≤ k)
some_cut z exact t held first second r j lawful h = by (up_or_not exact t first.since) (up_or_not exact t second.since)
  where
    by : IsUpTo exact t first.since ⊎ (IsUpTo exact t first.since → ⊥) → IsUpTo exact t second.since ⊎ (IsUpTo exact t second.since → ⊥) → (k : ℕ) × IsCut z exact t k × (year_place z j ≤ k)
    by early (inl past) = (suc (suc (year_place z j)), cut_past z exact t held first second r j lawful h past, omega arith)
    by (inl early) (inr late) = (suc (year_place z j), cut_second z exact t held first second r j lawful h early late, omega arith)
    by (inr late) (inr later) = (year_place z j, cut_first z exact t held first second r j lawful h late, omega arith)

-- where they do not count, moves entry of the rule does
none_in : (z : PlainZone) (t : ℤ) (held : Offset) (first second : Transition) (r : PlainRule) (j : ℕ) (change : Bool) → IsLawful z → IsInYear z t held first second r j
    → is_idle change held first ≡ true → NoneCounts z change
none_in z t held first second r j change lawful h idle = none_counts z r (r.first_year +ℤ pos j) change lawful h.year.rule (rw (h.held_is, h.first_is) at idle)

-- ---- the next

pub next_first : (z : PlainZone) (y t : ℤ) (held : Offset) (first second : Transition) (change : Bool) → IsLawful z → IsNearestYear y t → StartsInside z.rule → told.Rule held first second ≡ entries_in z.rule y
    → is_idle change held first ≡ false → t <ℤ first.since → IsNext z t change first
next_first z y t held first second change lawful near starts is moves lt = by (in_year z y t held first second near starts is)
  where
    by : (r : PlainRule) × (j : ℕ) × ((r.first_year +ℤ pos j) ≡ y) × IsInYear z t held first second r j → IsNext z t change first
    by found =
        let j = found.1 in
        answers_next z t change (year_place z j) (Some first) lawful (cut_first z false t held first second found.0 j lawful found.3 (not_later false t _ lt))
        (year_place z j, record { counts = first_counts z t held first second found.0 j change lawful found.3 moves; low = omega arith; first = λ m f from counts. from })

pub next_second : (z : PlainZone) (y t : ℤ) (held : Offset) (first second : Transition) (change : Bool) → IsLawful z → IsNearestYear y t → StartsInside z.rule → told.Rule held first second ≡ entries_in z.rule y
    → is_idle change held first ≡ false → first.since ≤ℤ t → t <ℤ second.since → IsNext z t change second
next_second z y t held first second change lawful near starts is moves le lt = by (in_year z y t held first second near starts is)
  where
    by : (r : PlainRule) × (j : ℕ) × ((r.first_year +ℤ pos j) ≡ y) × IsInYear z t held first second r j → IsNext z t change second
    by found =
        let j = found.1 in
        answers_next z t change (suc (year_place z j)) (Some second) lawful (cut_second z false t held first second found.0 j lawful found.3 le (not_later false t _ lt))
        (suc (year_place z j), record { counts = second_counts z t held first second found.0 j change found.3 moves; low = omega arith; first = λ m f from counts. from })

pub next_year : (z : PlainZone) (y x t : ℤ) (held : Offset) (first second : Transition) (change : Bool) (o : Option Transition) → IsLawful z → IsNearestYear y t → StartsInside z.rule → told.Rule held first second ≡ entries_in z.rule y
    → x ≡ y +ℤ pos 1 → (is_idle change held first ≡ true) ⊎ (second.since ≤ℤ t)
    → ((r : PlainRule) (j : ℕ) → IsLawful z → IsYearOf z x r j → FirstFrom z change (year_place z j) o) → AnswersNext z t change o
next_year z y x t held first second change o lawful near starts is next why from = by (in_year z y t held first second near starts is)
  where
    by : (r : PlainRule) × (j : ℕ) × ((r.first_year +ℤ pos j) ≡ y) × IsInYear z t held first second r j → AnswersNext z t change o
    by found = which why
      where
        j : ℕ
        j = found.1

        of : IsYearOf z x found.0 (suc j)
        of = let same = found.2 in let below = found.3.year.below in record { rule = found.3.year.rule; is = omega (arith, ints, next, same); to = omega (arith, ints, next, same, below) }

        place : year_place z (suc j) ≡ suc (suc (year_place z j))
        place = omega arith

        which : (is_idle change held first ≡ true) ⊎ (second.since ≤ℤ t) → AnswersNext z t change o
        which (inl idle) =
            let cut = some_cut z false t held first second found.0 j lawful found.3 in
            let low = cut.2 in
            answers_next z t change cut.0 o lawful cut.1 (first_idle z change _ cut.0 o (none_in z t held first second found.0 j change lawful found.3 idle) (omega arith) (omega (arith, low)) (from found.0 (suc j) lawful of))
        which (inr le) =
            answers_next z t change _ o lawful (cut_past z false t held first second found.0 j lawful found.3 le) (rw (← place) (from found.0 (suc j) lawful of))

-- ---- the one before

pub prev_second : (z : PlainZone) (y t : ℤ) (held : Offset) (first second : Transition) (exact change : Bool) → IsLawful z → IsNearestYear y t → StartsInside z.rule → told.Rule held first second ≡ entries_in z.rule y
    → is_idle change held first ≡ false → IsUpTo exact t second.since → IsPrev z t exact change second
prev_second z y t held first second exact change lawful near starts is moves up = by (in_year z y t held first second near starts is)
  where
    by : (r : PlainRule) × (j : ℕ) × ((r.first_year +ℤ pos j) ≡ y) × IsInYear z t held first second r j → IsPrev z t exact change second
    by found =
        let j = found.1 in
        answers_prev z t exact change (suc (suc (year_place z j))) (Some second) lawful (cut_past z exact t held first second found.0 j lawful found.3 up)
        (suc (year_place z j), record { counts = second_counts z t held first second found.0 j change found.3 moves; high = omega arith; last = λ m f lt counts. omega arith })

pub prev_first : (z : PlainZone) (y t : ℤ) (held : Offset) (first second : Transition) (exact change : Bool) → IsLawful z → IsNearestYear y t → StartsInside z.rule → told.Rule held first second ≡ entries_in z.rule y
    → is_idle change held first ≡ false → (IsUpTo exact t second.since → ⊥) → IsUpTo exact t first.since → IsPrev z t exact change first
prev_first z y t held first second exact change lawful near starts is moves late up = by (in_year z y t held first second near starts is)
  where
    by : (r : PlainRule) × (j : ℕ) × ((r.first_year +ℤ pos j) ≡ y) × IsInYear z t held first second r j → IsPrev z t exact change first
    by found =
        let j = found.1 in
        answers_prev z t exact change (suc (year_place z j)) (Some first) lawful (cut_second z exact t held first second found.0 j lawful found.3 up late)
        (year_place z j, record { counts = first_counts z t held first second found.0 j change lawful found.3 moves; high = omega arith; last = λ m f lt counts. omega arith })

pub prev_year : (z : PlainZone) (y t : ℤ) (held : Offset) (first second : Transition) (exact change : Bool) (o : Option Transition) → IsLawful z → IsNearestYear y t → StartsInside z.rule → told.Rule held first second ≡ entries_in z.rule y
    → (is_idle change held first ≡ true) ⊎ (IsUpTo exact t first.since → ⊥)
    → ((r : PlainRule) (j : ℕ) → IsLawful z → IsYearOf z y r j → LastBelow z change (year_place z j) o) → AnswersPrev z t exact change o
prev_year z y t held first second exact change o lawful near starts is why below = by (in_year z y t held first second near starts is)
  where
    by : (r : PlainRule) × (j : ℕ) × ((r.first_year +ℤ pos j) ≡ y) × IsInYear z t held first second r j → AnswersPrev z t exact change o
    by found = which why
      where
        j : ℕ
        j = found.1

        of : IsYearOf z y found.0 j
        of = let same = found.2 in let under = found.3.year.below in record { rule = found.3.year.rule; is = omega (arith, ints, same); to = omega (arith, ints, same, under) }

        which : (is_idle change held first ≡ true) ⊎ (IsUpTo exact t first.since → ⊥) → AnswersPrev z t exact change o
        which (inl idle) =
            let cut = some_cut z exact t held first second found.0 j lawful found.3 in
            answers_prev z t exact change cut.0 o lawful cut.1 (last_idle z change _ cut.0 o (none_in z t held first second found.0 j change lawful found.3 idle) (omega arith) cut.2 (below found.0 j lawful of))
        which (inr late) =
            answers_prev z t exact change _ o lawful (cut_first z exact t held first second found.0 j lawful found.3 late) (below found.0 j lawful of)

-- ---- after all years

-- the year after the last one of the rule
record IsAfterAll (z : PlainZone) (t : ℤ) (y : ℤ) (r : PlainRule) (j : ℕ) : Type 0 where
  of : IsYearOf z y r j
  past : pos 2147483647 ≤ℤ y
  low : year_second y ≤ℤ t

after_all : (z : PlainZone) (y t : ℤ) (last : Offset) → y ≤ℤ pos 2147483647 → IsNearestYear y t → told.Past last ≡ entries_in z.rule y → (r : PlainRule) × (j : ℕ) × IsAfterAll z t y r j
after_all z y t last to near is = by (past_rule z.rule y last is)
  where
    by : (r : PlainRule) × IsPastRule z.rule y last r → (r : PlainRule) × (j : ℕ) × IsAfterAll z t y r j
    by found =
        let h = found.1 in
        let j = years_from found.0.first_year y h.from in
        (found.0, j.0, record { of = record { rule = h.rule; is = sym j.1; to = to }; past = h.past; low = from_year y t near h.past })

cut_after : (z : PlainZone) (exact : Bool) (t y : ℤ) (r : PlainRule) (j : ℕ) → IsLawful z → IsAfterAll z t y r j → IsCut z exact t (year_place z j)
cut_after z exact t y r j lawful h = record {
  passed = λ n e at lt. (let ends = (ends_before z r j n e lawful h.of.rule at lt).since in let is = h.of.is in let low : year_second (r.first_year +ℤ pos j) ≤ℤ t = rw (← is) h.low in earlier exact t _ (omega (arith, ints, ends, low)));
  ahead = λ n e at le up. none_past z y r j n e h.of h.past le at;
}

pub next_after : (z : PlainZone) (y t : ℤ) (last : Offset) (change : Bool) → IsLawful z → y ≤ℤ pos 2147483647 → IsNearestYear y t → told.Past last ≡ entries_in z.rule y → AnswersNext z t change None
next_after z y t last change lawful to near is = by (after_all z y t last to near is)
  where
    by : (r : PlainRule) × (j : ℕ) × IsAfterAll z t y r j → AnswersNext z t change None
    by found =
        answers_next z t change (year_place z found.1) None lawful (cut_after z false t y found.0 found.1 lawful found.2)
        (λ m f from counts. none_past z y found.0 found.1 m f found.2.of found.2.past from counts.entry)

pub prev_after : (z : PlainZone) (y x t : ℤ) (last : Offset) (exact change : Bool) (o : Option Transition) → IsLawful z → y ≤ℤ pos 2147483647 → x ≡ pos 2147483647 → IsNearestYear y t → told.Past last ≡ entries_in z.rule y
    → ((r : PlainRule) (j : ℕ) → IsLawful z → IsYearOf z x r j → LastBelow z change (year_place z j) o) → AnswersPrev z t exact change o
prev_after z y x t last exact change o lawful to end near is below = by (after_all z y t last to near is)
  where
    by : (r : PlainRule) × (j : ℕ) × IsAfterAll z t y r j → AnswersPrev z t exact change o
    by found =
        let past = found.2.past in
        let same : y ≡ x = omega (arith, ints, to, past, end) in
        answers_prev z t exact change (year_place z found.1) o lawful (cut_after z exact t y found.0 found.1 lawful found.2)
        (below found.0 found.1 lawful (rw same at found.2.of))
