-- Where the entries around a second of a lawful zone are cut, and which of a year's entries count.
use Rattle.std.proofs.Common.{◌≡◌, ℕ, zero, suc, ◌<◌, ◌≤◌, Bool, true, false, IsTrue, ◌⊎◌, inl, inr, length, Option, Some, None, ℤ, pos, ◌+ℤ◌, ◌-ℤ◌, ◌<ℤ◌, ◌≤ℤ◌, refl, sym, ap, ◌∙◌, arith}
use Rattle.std.specs.Prelude.{slice_get}
use Rattle.std.specs.Ordering.{int_eq}
use Rattle.std.proofs.lemmas.Int.{ints}
use Rattle.std.proofs.lemmas.Bool.{cases_lt}
use Rattle.std.proofs.lemmas.Option.{slice_get_within}
use Rattle.timeline.specs.declared.offset.Offset.{Offset}
use Rattle.timeline.specs.declared.offset.Transition.{Transition}
use Rattle.timeline.specs.declared.lookups.YearEntries.TheVariants as told
use Rattle.timeline.specs.Zone.{PlainZone, PlainRule}
use Rattle.timeline.specs.Rule.{start_is_first, first_entry, second_entry}
use Rattle.timeline.specs.Timeline.{entry_at, before_entry, offset_of}
use Rattle.timeline.specs.Laws.{IsLawful}
use Rattle.timeline.specs.Inside.YearEntries.{entries_in, rule_entries_in}
use Rattle.timeline.specs.Transitions.{Counts}
use Rattle.timeline.specs.Inside.FoundEntries.{FirstIn, FirstFrom, LastBelow}
use Rattle.timeline.specs.Inside.YearTransitions.{IsYearOf, year_place, is_idle, first_of_year, last_of_year}
use Rattle.timeline.proofs.Entries.{below_or_not}
use Rattle.timeline.proofs.TimelineEntries.{IsRuleYear, Stands, in_table, is_first, is_second, stands, first_at, second_at, same_second, table_at}
use Rattle.timeline.proofs.TimelineRises.{before_first, before_second, same_rule}
use Rattle.timeline.proofs.YearEntries.{says_table, says_rule, says_past}

-- ---- which count

int_eq_false : (a b : ℤ) → int_eq a b ≡ false → a ≡ b → ⊥
int_eq_false a b h same = grind (arith, ints)

int_eq_true : (a b : ℤ) → int_eq a b ≡ true → a ≡ b
int_eq_true a b h = grind (arith, ints)

pub idle_not : (change : Bool) (o : Offset) (e : Transition) → is_idle change o e ≡ false → IsTrue change → o.offset ≡ e.offset → ⊥
idle_not true o e moves asked same = int_eq_false _ _ moves same
idle_not false o e moves asked same = cc

pub idle_so : (change : Bool) (o : Offset) (e : Transition) → is_idle change o e ≡ true → IsTrue change × (o.offset ≡ e.offset)
idle_so true o e h = (refl, int_eq_true _ _ h)
idle_so false o e h = cc

-- the nth entry counts where it is not idle, and does not where it is
pub counted : (z : PlainZone) (change : Bool) (n : ℕ) (o : Offset) (e : Transition) → o ≡ before_entry z n → entry_at z n ≡ Some e → is_idle change o e ≡ false → Counts z change n e
counted z change n o e before at moves = record { entry = at; changes = rw before at (idle_not change o e moves) }

pub not_counted : (z : PlainZone) (change : Bool) (n : ℕ) (o : Offset) (e f : Transition) → o ≡ before_entry z n → entry_at z n ≡ Some e → is_idle change o e ≡ true → Counts z change n f → ⊥
not_counted z change n o e f before at idle counts =
    let so = idle_so change o e idle in
    let same : f ≡ e = cc (sym counts.entry ∙ at) in
    counts.changes so.0 (ap (λ (o : Offset). o.offset) (sym before) ∙ so.1 ∙ ap (λ (e : Transition). e.offset) (sym same))

-- a search of the table comes to one that counts, or goes on
pub first_here : (z : PlainZone) (change : Bool) (from n : ℕ) (o : Offset) (e : Transition) → o ≡ before_entry z n → slice_get z.table n ≡ Some e → is_idle change o e ≡ false → from ≤ n
    → ((m : ℕ) (f : Transition) → from ≤ m → m < n → Counts z change m f → ⊥) → FirstIn z change from (length z.table) (Some e)
first_here z change from n o e before at moves low none = (
  n,
  record {
    counts = counted z change n o e before (table_at z n e at) moves;
    low = low;
    high = slice_get_within z.table n e at;
    first = λ m f le lt counts. by m f le counts (cases_lt m n);
  },
)
  where
    by : (m : ℕ) (f : Transition) → from ≤ m → Counts z change m f → (m < n) ⊎ (n ≤ m) → n ≤ m
    by m f le counts (inl lt) = absurd (none m f le lt counts)
    by m f le counts (inr past) = past

pub last_here : (z : PlainZone) (change : Bool) (to n : ℕ) (o : Offset) (e : Transition) → o ≡ before_entry z n → slice_get z.table n ≡ Some e → is_idle change o e ≡ false → n < to
    → ((m : ℕ) (f : Transition) → suc n ≤ m → m < to → Counts z change m f → ⊥) → LastBelow z change to (Some e)
last_here z change to n o e before at moves high none = (
  n,
  record {
    counts = counted z change n o e before (table_at z n e at) moves;
    high = high;
    last = λ m f lt counts. by m f lt counts (cases_lt n m);
  },
)
  where
    by : (m : ℕ) (f : Transition) → m < to → Counts z change m f → (n < m) ⊎ (m ≤ n) → m ≤ n
    by m f lt counts (inl past) = absurd (none m f (omega arith) lt counts)
    by m f lt counts (inr le) = le

-- ---- a rule whose transitions make no change

same_first : (r : PlainRule) (x y : ℤ) → offset_of (first_entry r x) ≡ offset_of (first_entry r y)
same_first r x y = by (start_is_first r) refl
  where
    by : (c : Bool) → start_is_first r ≡ c → offset_of (first_entry r x) ≡ offset_of (first_entry r y)
    by true h = rw h refl
    by false h = rw h refl

-- none of its entries counts where a change is asked for
pub NoneCounts : PlainZone → Bool → Type 0
NoneCounts z change = (n : ℕ) (e : Transition) → length z.table ≤ n → Counts z change n e → ⊥

pub none_counts : (z : PlainZone) (r : PlainRule) (y : ℤ) (change : Bool) → IsLawful z → z.rule ≡ Some r → is_idle change (offset_of (second_entry r y)) (first_entry r y) ≡ true → NoneCounts z change
unfolding NoneCounts
none_counts z r y change lawful rule idle = λ n e past counts. by n e past counts (stands z n e counts.entry)
  where
    so : IsTrue change × ((second_entry r y).offset ≡ (first_entry r y).offset)
    so = idle_so change (offset_of (second_entry r y)) (first_entry r y) idle

    alike : (r' : PlainRule) (x : ℤ) → r' ≡ r → (second_entry r' x).offset ≡ (first_entry r' x).offset
    alike r' x same = rw same (ap (λ (o : Offset). o.offset) (same_second r x y) ∙ so.1 ∙ ap (λ (o : Offset). o.offset) (same_first r y x))

    by : (n : ℕ) (e : Transition) → length z.table ≤ n → Counts z change n e → Stands z n e → ⊥
    by n e past counts (in_table lt is) = omega arith
    by n e past counts (is_first r' j year place is) =
        counts.changes so.0 (ap (λ (o : Offset). o.offset) (before_first z r' j n lawful year place) ∙ alike r' _ (same_rule z r r' rule year.rule) ∙ ap (λ (e : Transition). e.offset) (sym is))
    by n e past counts (is_second r' j year place is) =
        counts.changes so.0 (ap (λ (o : Offset). o.offset) (before_second z r' j n year place) ∙ sym (alike r' _ (same_rule z r r' rule year.rule)) ∙ ap (λ (e : Transition). e.offset) (sym is))

-- so it does not matter from where on, or up to where, they are looked for
pub first_idle : (z : PlainZone) (change : Bool) (p k : ℕ) (o : Option Transition) → NoneCounts z change → length z.table ≤ p → length z.table ≤ k → FirstFrom z change p o → FirstFrom z change k o
unfolding NoneCounts
first_idle z change p k None none from to h = λ m f le counts. none m f (omega arith) counts
first_idle z change p k (Some e) none from to h = let low = h.1.low in absurd (none h.0 e (omega arith) h.1.counts)

pub last_idle : (z : PlainZone) (change : Bool) (p k : ℕ) (o : Option Transition) → NoneCounts z change → length z.table ≤ p → p ≤ k → LastBelow z change p o → LastBelow z change k o
unfolding NoneCounts
last_idle z change p k None none from to h = λ m f lt counts. by m f counts (cases_lt m p)
  where
    by : (m : ℕ) (f : Transition) → Counts z change m f → (m < p) ⊎ (p ≤ m) → ⊥
    by m f counts (inl before) = h m f before counts
    by m f counts (inr le) = none m f (omega arith) counts
last_idle z change p k (Some e) none from to h = let high = h.1.high in (
  h.0,
  record {
    counts = h.1.counts;
    high = omega arith;
    last = λ m f lt counts. by m f counts (cases_lt m p);
  },
)
  where
    by : (m : ℕ) (f : Transition) → Counts z change m f → (m < p) ⊎ (p ≤ m) → m ≤ h.0
    by m f counts (inl before) = h.1.last m f before counts
    by m f counts (inr le) = absurd (none m f (omega arith) counts)

-- ---- a year's entries

-- the year as one that has entries
pub rule_year : (z : PlainZone) (y : ℤ) (r : PlainRule) (j : ℕ) → IsYearOf z y r j → y <ℤ pos 2147483647 → IsRuleYear z r j
rule_year z y r j of below = record { rule = of.rule; below = rw (← of.is) below }

-- after the last year there are none
pub none_past : (z : PlainZone) (y : ℤ) (r : PlainRule) (j n : ℕ) (e : Transition) → IsYearOf z y r j → pos 2147483647 ≤ℤ y → year_place z j ≤ n → entry_at z n ≡ Some e → ⊥
none_past z y r j n e of past from at = by (stands z n e at)
  where
    later : (r' : PlainRule) (i : ℕ) → IsRuleYear z r' i → j ≤ i → ⊥
    later r' i year le =
        let same : r'.first_year ≡ r.first_year = ap (λ (r : PlainRule). r.first_year) (same_rule z r r' of.rule year.rule) in
        let below = year.below in
        let is = of.is in
        omega (arith, ints, same, below, is, past, le)

    by : Stands z n e → ⊥
    by (in_table lt is) = omega arith
    by (is_first r' i year place is) = later r' i year (omega arith)
    by (is_second r' i year place is) = later r' i year (omega arith)

entries_are : (z : PlainZone) (y : ℤ) (r : PlainRule) → z.rule ≡ Some r → entries_in z.rule y ≡ rule_entries_in r y
entries_are z y r rule = rw rule refl

begins : (r : PlainRule) (y : ℤ) (j : ℕ) → y ≡ r.first_year +ℤ pos j → r.first_year ≤ℤ y
begins r y j is = omega (arith, ints, is)

pub first_from_year : (z : PlainZone) (y : ℤ) (r : PlainRule) (j : ℕ) (change : Bool) → IsLawful z → IsYearOf z y r j
    → FirstFrom z change (year_place z j) (first_of_year change (entries_in z.rule y))
unfolding NoneCounts
first_from_year z y r j change lawful of = by (below_or_not y (pos 2147483647))
  where
    in_it : (b : Bool) → y <ℤ pos 2147483647 → is_idle change (offset_of (second_entry r y)) (first_entry r y) ≡ b
        → FirstFrom z change (year_place z j) (first_of_year change (told.Rule (offset_of (second_entry r y)) (first_entry r y) (second_entry r y)))
    in_it true below idle = rw idle (λ m f from counts. all m f from counts)
      where
        all : (m : ℕ) (f : Transition) → year_place z j ≤ m → Counts z change m f → ⊥
        all m f from counts = none_counts z r y change lawful of.rule idle m f (omega arith) counts
    in_it false below moves =
        let year = rule_year z y r j of below in
        let at : entry_at z (year_place z j) ≡ Some (first_entry r y) = rw of.is (first_at z r j (year_place z j) year refl) in
        let before : before_entry z (year_place z j) ≡ offset_of (second_entry r y) = rw of.is (before_first z r j (year_place z j) lawful year refl) in
        rw moves (year_place z j, record { counts = counted z change _ _ _ (sym before) at moves; low = omega arith; first = λ m f from counts. from })

    by : (y <ℤ pos 2147483647) ⊎ (pos 2147483647 ≤ℤ y) → FirstFrom z change (year_place z j) (first_of_year change (entries_in z.rule y))
    by (inl below) = rw (entries_are z y r of.rule, ← says_rule r y (begins r y j of.is) below) (in_it (is_idle change (offset_of (second_entry r y)) (first_entry r y)) below refl)
    by (inr past) =
        rw (entries_are z y r of.rule, ← says_past r y y (offset_of (second_entry r y)) (begins r y j of.is) past refl)
        (λ m f from counts. none_past z y r j m f of past from counts.entry)

-- the last that counts before a year: the second of the year before, or else the last of the table
pub last_before_year : (z : PlainZone) (y x : ℤ) (r : PlainRule) (j : ℕ) (change : Bool) (o : Option Transition) → IsLawful z → IsYearOf z y r j → x ≡ y -ℤ pos 1 → o ≡ last_of_year change (entries_in z.rule x)
    → ((e : Transition) → o ≡ Some e → LastBelow z change (year_place z j) (Some e))
    × (o ≡ None → (a : Option Transition) → LastBelow z change (length z.table) a → LastBelow z change (year_place z j) a)
last_before_year z y x r zero change o lawful of is told_is =
    let first = of.is in
    let table : entries_in z.rule x ≡ told.Table = entries_are z x r of.rule ∙ sym (says_table r x (omega (arith, ints, is, first))) in
    let none : o ≡ None = rw table at told_is in
    let same : year_place z zero ≡ length z.table = omega arith in
    ((λ e some. let moves = sym none ∙ some in cc), (λ _ a h. rw same h))
last_before_year z y x r (suc j) change o lawful of is told_is = by (is_idle change (offset_of (second_entry r x)) (first_entry r x)) refl
  where
    year_is : x ≡ r.first_year +ℤ pos j
    year_is = let here = of.is in omega (arith, ints, is, here)

    below : x <ℤ pos 2147483647
    below = let to = of.to in omega (arith, ints, is, to)

    year : IsRuleYear z r j
    year = record { rule = of.rule; below = rw (← year_is) below }

    rule_told : entries_in z.rule x ≡ told.Rule (offset_of (second_entry r x)) (first_entry r x) (second_entry r x)
    rule_told = entries_are z x r of.rule ∙ sym (says_rule r x (begins r x j year_is) below)

    place : year_place z (suc j) ≡ suc (suc (year_place z j))
    place = omega arith

    by : (b : Bool) → is_idle change (offset_of (second_entry r x)) (first_entry r x) ≡ b
        → ((e : Transition) → o ≡ Some e → LastBelow z change (year_place z (suc j)) (Some e))
        × (o ≡ None → (a : Option Transition) → LastBelow z change (length z.table) a → LastBelow z change (year_place z (suc j)) a)
    by true idle =
        let none : o ≡ None = rw (rule_told, idle) at told_is in
        ((λ e some. let moves = sym none ∙ some in cc), (λ _ a h. last_idle z change (length z.table) _ a (none_counts z r x change lawful of.rule idle) (omega arith) (omega arith) h))
    by false moves =
        let some : o ≡ Some (second_entry r x) = rw (rule_told, moves) at told_is in
        let at : entry_at z (suc (year_place z j)) ≡ Some (second_entry r x) = rw year_is (second_at z r j _ year refl) in
        let before : before_entry z (suc (year_place z j)) ≡ offset_of (first_entry r x) = rw year_is (before_second z r j _ year refl) in
        let changes : IsTrue change → (before_entry z (suc (year_place z j))).offset ≡ (second_entry r x).offset → ⊥ = λ asked same. idle_not change (offset_of (second_entry r x)) (first_entry r x) moves asked (sym same ∙ ap (λ (o : Offset). o.offset) before) in (
          (λ e is_e.
              let same : second_entry r x ≡ e = cc (sym some ∙ is_e) in
              rw (← same) (
                suc (year_place z j),
                record {
                  counts = record { entry = at; changes = changes };
                  high = omega arith;
                  last = λ m f lt counts. omega arith;
                },
              )),
          (λ none. let bad = sym some ∙ none in cc),
        )
