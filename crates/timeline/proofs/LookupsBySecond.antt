-- What a look-up by second answers in a lawful zone: by the place in the table, by the year under the rule, or after all years.
use Rattle.std.proofs.Common.{◌≡◌, ℕ, Bool, true, false, suc, ◌+◌, ◌*◌, ◌<◌, ◌≤◌, length, Some, ℤ, pos, ◌+ℤ◌, ◌<ℤ◌, ◌≤ℤ◌, refl, sym, ◌∙◌, ◌⊎◌, inl, inr, arith}
use Rattle.std.specs.Prelude.{int_lt, IfSome}
use Rattle.std.proofs.lemmas.Int.{ints}
use Rattle.std.proofs.lemmas.Bool.{cases_lt}
use Rattle.civil.specs.Calendar.{year_second}
use Rattle.timeline.specs.declared.offset.Transition.{Transition}
use Rattle.timeline.specs.Zone.{PlainZone, PlainRule}
use Rattle.timeline.specs.Rule.{first_entry, second_entry}
use Rattle.timeline.specs.Timeline.{entry_at, before_entry, offset_at, offset_of, table_place}
use Rattle.timeline.specs.Laws.{IsLawful}
use Rattle.timeline.specs.Inside.AnswerSteps.{offset_in_year}
use Rattle.timeline.proofs.Entries.{int_lt_true, int_lt_false}
use Rattle.timeline.specs.WallPromises.{IsOfYear}
use Rattle.timeline.proofs.Chain.{is_at}
use Rattle.timeline.proofs.TimelineEntries.{IsRuleYear, table_entry, first_at, second_at, before_next, entry_count, entry_within, entry_there, table_counted, CountsTo, counts_to}
use Rattle.timeline.proofs.TimelineRises.{if_some, before_first, before_second, since_is, lawful_chain}
use Rattle.timeline.proofs.Years.{years_rise}
use Rattle.timeline.proofs.TimelineYears.{years_from, ends_before, starts_from, before_end, rule_of}
use Rattle.timeline.proofs.TablePlaces.{IsTablePlace, table_placed}
use Rattle.timeline.proofs.WallSeconds.{IsPlace, offset_there}

-- it is enough to look at the entries around it
placed : (z : PlainZone) (t : ℤ) (k : ℕ) → IsLawful z → k ≤ entry_count z → ((j : ℕ) (e : Transition) → suc j ≡ k → entry_at z j ≡ Some e → e.since ≤ℤ t)
    → ((e : Transition) → entry_at z k ≡ Some e → t <ℤ e.since) → IsPlace z t k
placed z t k lawful within last next = is_at (lawful_chain z lawful) t k within
    (λ j same. let e = entry_there z j (omega arith) in rw (since_is z j e.0 e.1) (last j e.0 same e.1))
    (λ lt. let e = entry_there z k lt in rw (since_is z k e.0 e.1) (next e.0 e.1))

-- ---- by the table

pub offset_by_table : (z : PlainZone) (t : ℤ) → IsLawful z → IfSome z.rule (λ r. t <ℤ year_second r.first_year) → offset_at z t ≡ before_entry z (table_place z t)
offset_by_table z t lawful before = offset_there z t k (placed z t k lawful (let within = place.within in omega (arith, table_counted z)) last next)
  where
    k : ℕ
    k = table_place z t

    place : IsTablePlace z t k
    place = table_placed z t lawful.order

    last : (j : ℕ) (e : Transition) → suc j ≡ k → entry_at z j ≡ Some e → e.since ≤ℤ t
    last j e same at =
        let within = place.within in
        let in_it : j < length z.table = omega arith in
        place.passed j e (sym (table_entry z j in_it) ∙ at) (omega arith)

    next : (e : Transition) → entry_at z k ≡ Some e → t <ℤ e.since
    next e at = by (cases_lt k (length z.table))
      where
        by : (k < length z.table) ⊎ (length z.table ≤ k) → t <ℤ e.since
        by (inl in_it) = place.ahead k e (sym (table_entry z k in_it) ∙ at) (omega arith)
        by (inr past) =
            let r = rule_of z k e at past in
            let less = if_some (λ r. t <ℤ year_second r.first_year) z.rule r.0 r.1 before in
            let up = years_rise r.0.first_year (r.0.first_year +ℤ pos 0) (omega (arith, ints)) in
            let start = (starts_from z r.0 0 k e lawful r.1 at (omega arith)).since in
            omega (arith, ints, less, up, start)

-- ---- by the rule

-- before the first transition of the year, from it on, and from the second on
pub record ShowsYear (z : PlainZone) (r : PlainRule) (y t : ℤ) : Type 0 where
  pub before : t <ℤ (first_entry r y).since → offset_at z t ≡ offset_of (second_entry r y)
  pub between : (first_entry r y).since ≤ℤ t → t <ℤ (second_entry r y).since → offset_at z t ≡ offset_of (first_entry r y)
  pub after : (second_entry r y).since ≤ℤ t → offset_at z t ≡ offset_of (second_entry r y)

in_year : (z : PlainZone) (r : PlainRule) (j : ℕ) (t : ℤ) → IsLawful z → IsRuleYear z r j → IsOfYear (r.first_year +ℤ pos j) t → ShowsYear z r (r.first_year +ℤ pos j) t
in_year z r j t lawful year of = record { before = before; between = between; after = after }
  where
    y : ℤ
    y = r.first_year +ℤ pos j

    i : ℕ
    i = length z.table + 2 * j

    at_first : entry_at z i ≡ Some (first_entry r y)
    at_first = first_at z r j i year refl

    at_second : entry_at z (suc i) ≡ Some (second_entry r y)
    at_second = second_at z r j (suc i) year refl

    is : (m n : ℕ) (e f : Transition) → m ≡ n → entry_at z m ≡ Some e → entry_at z n ≡ Some f → e ≡ f
    is m n e f same at at' = cc

    before : t <ℤ (first_entry r y).since → offset_at z t ≡ offset_of (second_entry r y)
    before lt =
        offset_there z t i (placed z t i lawful (omega (arith, entry_within z i _ at_first))
        (λ n e same at. let ends = (ends_before z r j n e lawful year.rule at (omega arith)).since in let low = of.from in omega (arith, ints, ends, low))
        (λ e at. rw (is i i e _ refl at at_first) lt))
        ∙ before_first z r j i lawful year refl

    between : (first_entry r y).since ≤ℤ t → t <ℤ (second_entry r y).since → offset_at z t ≡ offset_of (first_entry r y)
    between le lt =
        offset_there z t (suc i) (placed z t (suc i) lawful (omega (arith, entry_within z (suc i) _ at_second))
        (λ n e same at. rw (is n i e _ (omega arith) at at_first) le)
        (λ e at. rw (is (suc i) (suc i) e _ refl at at_second) lt))
        ∙ before_second z r j (suc i) year refl

    after : (second_entry r y).since ≤ℤ t → offset_at z t ≡ offset_of (second_entry r y)
    after le =
        offset_there z t (suc (suc i)) (placed z t (suc (suc i)) lawful (omega (arith, entry_within z (suc i) _ at_second))
        (λ n e same at. rw (is n (suc i) e _ (omega arith) at at_second) le)
        (λ e at.
        let up = years_rise (y +ℤ pos 1) (r.first_year +ℤ pos (suc j)) (omega (arith, ints)) in
        let to = of.to in
        let start = (starts_from z r (suc j) (suc (suc i)) e lawful year.rule at (omega arith)).since in
        omega (arith, ints, up, to, start)))
        ∙ before_next z (suc i) _ at_second

pub offset_by_rule : (z : PlainZone) (r : PlainRule) (y t : ℤ) → IsLawful z → z.rule ≡ Some r → r.first_year ≤ℤ y → y <ℤ pos 2147483647 → IsOfYear y t → ShowsYear z r y t
offset_by_rule z r y t lawful rule from below of =
    let year = years_from r.first_year y from in
    rw (← year.1) (in_year z r year.0 t lawful (record { rule = rule; below = rw year.1 below }) (rw year.1 of))

-- so what the year's two transitions bring holds
pub offset_by_year : (z : PlainZone) (r : PlainRule) (y t : ℤ) → IsLawful z → z.rule ≡ Some r → r.first_year ≤ℤ y → y <ℤ pos 2147483647 → IsOfYear y t
    → offset_at z t ≡ offset_in_year t (offset_of (second_entry r y)) (first_entry r y) (second_entry r y)
offset_by_year z r y t lawful rule from below of = by (int_lt t (first_entry r y).since) (int_lt t (second_entry r y).since) refl refl
  where
    shows : ShowsYear z r y t
    shows = offset_by_rule z r y t lawful rule from below of

    by : (a b : Bool) → int_lt t (first_entry r y).since ≡ a → int_lt t (second_entry r y).since ≡ b
        → offset_at z t ≡ offset_in_year t (offset_of (second_entry r y)) (first_entry r y) (second_entry r y)
    by true b is_a is_b = rw is_a (shows.before (int_lt_true _ _ is_a))
    by false true is_a is_b = rw (is_a, is_b) (shows.between (int_lt_false _ _ is_a) (int_lt_true _ _ is_b))
    by false false is_a is_b = rw (is_a, is_b) (shows.after (int_lt_false _ _ is_b))

-- ---- after all years

pub offset_past_rule : (z : PlainZone) (r : PlainRule) (y t x : ℤ) → IsLawful z → z.rule ≡ Some r → r.first_year ≤ℤ y → pos 2147483647 ≤ℤ y → year_second y ≤ℤ t
    → offset_at z t ≡ offset_of (second_entry r x)
offset_past_rule z r y t x lawful rule from past low = by (counts_to z r rule)
  where
    by : (c : ℕ) × CountsTo z r c → offset_at z t ≡ offset_of (second_entry r x)
    by counts = offset_there z t n (placed z t n lawful (omega (arith, same)) last next) ∙ before_end z r counts.0 x lawful rule counts.1.years
      where
        n : ℕ
        n = length z.table + 2 * counts.0

        same : entry_count z ≡ n
        same = counts.1.count

        last : (j : ℕ) (e : Transition) → suc j ≡ n → entry_at z j ≡ Some e → e.since ≤ℤ t
        last j e next at =
            let up = years_rise _ y (counts.1.end y from past) in
            let ends = (ends_before z r counts.0 j e lawful rule at (omega arith)).since in
            omega (arith, ints, up, low, ends)

        next : (e : Transition) → entry_at z n ≡ Some e → t <ℤ e.since
        next e at = absurd (omega (arith, same, entry_within z n e at))
