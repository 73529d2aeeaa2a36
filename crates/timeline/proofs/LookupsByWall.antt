-- What a look-up by wall second answers in a lawful zone: from the table around it, from its year under the rule, or after all years.
use Rattle.std.proofs.Common.{◌≡◌, ℕ, zero, suc, ◌+◌, ◌-◌, ◌*◌, ◌<◌, ◌≤◌, min, [], ◌∷◌, length, take, drop, get_or, Some, ℤ, pos, ◌+ℤ◌, ◌<ℤ◌, ◌≤ℤ◌, refl, sym, ap, ◌∙◌, ◌⊎◌, inl, inr, drop-cons, arith}
use Rattle.std.specs.Prelude.{slice_range, IfSome}
use Rattle.std.proofs.lemmas.Int.{ints}
use Rattle.std.proofs.lemmas.Bool.{cases_lt}
use Rattle.std.proofs.lemmas.Option.{get_or_from_slice_get}
use Rattle.civil.specs.Calendar.{year_second}
use Rattle.timeline.specs.declared.offset.PossibleOffset.TheVariants as possible
use Rattle.timeline.specs.Zone.{PlainZone, PlainRule}
use Rattle.timeline.specs.Rule.{first_entry, second_entry}
use Rattle.timeline.specs.Timeline.{entry_at, before_entry, offset_of, table_place}
use Rattle.timeline.specs.Laws.{IsLawful}
use Rattle.timeline.specs.Lookups.{AnswersWall}
use Rattle.timeline.specs.Inside.AnswerSteps.{answer_from}
use Rattle.timeline.specs.WallPromises.{IsOfYear}
use Rattle.timeline.proofs.ChainWalls.{IsAhead}
use Rattle.timeline.proofs.TimelineEntries.{IsRuleYear, is_there, table_entry, first_at, second_at, entry_count, entry_within, table_counted, CountsTo, counts_to}
use Rattle.timeline.proofs.TimelineRises.{step_of, before_first}
use Rattle.timeline.proofs.Years.{years_rise}
use Rattle.timeline.proofs.TimelineYears.{years_from, ends_before, before_end}
use Rattle.timeline.proofs.TablePlaces.{IsTablePlace, table_placed}
use Rattle.timeline.proofs.Candidates.{ends_behind, year_behind, year_ahead, past_ahead, table_behind, table_ahead}
use Rattle.timeline.proofs.CandidateAnswers.{IsRun, EndsBehind, StartsAhead, run_answers, says_last}

-- ---- by the table

-- part of the table is entries in a row
table_run : (z : PlainZone) (d i : ℕ) → i + d ≤ length z.table → IsRun z i (i + d) (take d (drop i z.table))
table_run z zero i within = omega arith
table_run z (suc d) i within =
    let e = is_there z.table i (omega arith) in
    let lt : i < length z.table = omega arith in
    let same : get_or z.table i e.0 ≡ e.0 = get_or_from_slice_get z.table i e.0 e.0 e.1 in
    let next : i + suc d ≡ suc i + d = omega arith in
    rw (next, drop-cons z.table i e.0 lt, same) (table_entry z i lt ∙ e.1, table_run z d (suc i) (omega arith))

pub part_run : (z : PlainZone) (i m : ℕ) → i ≤ m → m ≤ length z.table → IsRun z i m (slice_range z.table i m)
part_run z i m le within = let same : i + (m - i) ≡ m = omega arith in rw same at (table_run z (m - i) i (omega arith))

pub answers_by_table : (z : PlainZone) (w : ℤ) (i m : ℕ) → IsLawful z → IfSome z.rule (λ r. w <ℤ year_second r.first_year) → i ≤ m → m ≤ length z.table
    → (i ≡ 0) ⊎ (i < table_place z w) → (m ≡ length z.table) ⊎ (table_place z w < m)
    → AnswersWall z w (answer_from w (before_entry z i) (slice_range z.table i m))
answers_by_table z w i m lawful before le within from to =
    run_answers z w (slice_range z.table i m) i m lawful (omega (arith, table_counted z)) (part_run z i m le within) (last from) (next to)
  where
    place : IsTablePlace z w (table_place z w)
    place = table_placed z w lawful.order

    last : (i ≡ 0) ⊎ (i < table_place z w) → EndsBehind z w i
    last (inl none) j e same at = absurd (omega arith)
    last (inr lt) j e same at =
        let k_within = place.within in
        let in_it : j < length z.table = omega arith in
        table_behind z w (table_place z w) j e lawful place (sym (table_entry z j in_it) ∙ at) (omega arith)

    next : (m ≡ length z.table) ⊎ (table_place z w < m) → StartsAhead z w m
    next (inl end) e at = past_ahead z w m e lawful before at (omega arith)
    next (inr lt) e at = by (cases_lt m (length z.table))
      where
        by : (m < length z.table) ⊎ (length z.table ≤ m) → IsAhead w (step_of z m e)
        by (inl in_it) = table_ahead z w (table_place z w) m e lawful place (sym (table_entry z m in_it) ∙ at) lt
        by (inr past) = past_ahead z w m e lawful before at past

-- the last entry of the table that is not after w, and the next
pub answers_around : (z : PlainZone) (w : ℤ) (k i m : ℕ) → IsLawful z → IfSome z.rule (λ r. w <ℤ year_second r.first_year) → k ≡ table_place z w → i ≡ k - 1 → m ≡ min (length z.table) (k + 1)
    → AnswersWall z w (answer_from w (before_entry z i) (slice_range z.table i m))
answers_around z w k i m lawful before place from to =
    let within = (table_placed z w lawful.order).within in
    answers_by_table z w i m lawful before (omega arith) (omega arith) (first k i (table_place z w) place from) (last k m (length z.table) (table_place z w) place to)
  where
    first : (k i p : ℕ) → k ≡ p → i ≡ k - 1 → (i ≡ 0) ⊎ (i < p)
    first k i p place from = grind arith

    last : (k m l p : ℕ) → k ≡ p → m ≡ min l (k + 1) → (m ≡ l) ⊎ (p < m)
    last k m l p place to = grind arith

-- ---- by the rule

answers_in_year : (z : PlainZone) (r : PlainRule) (j : ℕ) (w : ℤ) → IsLawful z → IsRuleYear z r j → IsOfYear (r.first_year +ℤ pos j) w
    → AnswersWall z w (answer_from w (offset_of (second_entry r (r.first_year +ℤ pos j))) (first_entry r (r.first_year +ℤ pos j) ∷ second_entry r (r.first_year +ℤ pos j) ∷ []))
answers_in_year z r j w lawful year of =
    rw (← before_first z r j i lawful year refl)
    (run_answers z w _ i (suc (suc i)) lawful (omega (arith, entry_within z i _ at_first)) (at_first, (at_second, refl)) last next)
  where
    i : ℕ
    i = length z.table + 2 * j

    at_first : entry_at z i ≡ Some (first_entry r (r.first_year +ℤ pos j))
    at_first = first_at z r j i year refl

    at_second : entry_at z (suc i) ≡ Some (second_entry r (r.first_year +ℤ pos j))
    at_second = second_at z r j (suc i) year refl

    last : EndsBehind z w i
    last n e same at = year_behind z r j n w e lawful year.rule of at (omega arith)

    next : StartsAhead z w (suc (suc i))
    next e at = year_ahead z r j (suc (suc i)) w e lawful year.rule of at (omega arith)

pub answers_by_rule : (z : PlainZone) (r : PlainRule) (y w : ℤ) → IsLawful z → z.rule ≡ Some r → r.first_year ≤ℤ y → y <ℤ pos 2147483647 → IsOfYear y w
    → AnswersWall z w (answer_from w (offset_of (second_entry r y)) (first_entry r y ∷ second_entry r y ∷ []))
answers_by_rule z r y w lawful rule from below of =
    let year = years_from r.first_year y from in
    rw (← year.1) (answers_in_year z r year.0 w lawful (record { rule = rule; below = rw year.1 below }) (rw year.1 of))

-- ---- after all years

pub answers_past_rule : (z : PlainZone) (r : PlainRule) (y w x : ℤ) → IsLawful z → z.rule ≡ Some r → r.first_year ≤ℤ y → pos 2147483647 ≤ℤ y → year_second y ≤ℤ w
    → AnswersWall z w (possible.Single (offset_of (second_entry r x)))
answers_past_rule z r y w x lawful rule from past low = by (counts_to z r rule)
  where
    by : (c : ℕ) × CountsTo z r c → AnswersWall z w (possible.Single (offset_of (second_entry r x)))
    by counts = rw at_end at (run_answers z w [] n n lawful (omega (arith, same)) refl last next)
      where
        n : ℕ
        n = length z.table + 2 * counts.0

        same : entry_count z ≡ n
        same = counts.1.count

        at_end : answer_from w (before_entry z n) [] ≡ possible.Single (offset_of (second_entry r x))
        at_end = says_last w _ ∙ ap possible.Single (before_end z r counts.0 x lawful rule counts.1.years)

        last : EndsBehind z w n
        last j e next at =
            let up = years_rise _ y (counts.1.end y from past) in
            ends_behind _ w _ (omega (arith, ints, up, low)) (ends_before z r counts.0 j e lawful rule at (omega arith))

        next : StartsAhead z w n
        next e at = absurd (omega (arith, same, entry_within z n e at))
