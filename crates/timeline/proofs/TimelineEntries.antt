-- The entries of a zone, each with its place: those of the table, and the first and second of each of the rule's years.
use Rattle.std.proofs.Common.{◌≡◌, ℕ, suc, ◌+◌, ◌-◌, ◌*◌, ◌/◌, ◌%◌, ◌<◌, ◌≤◌, Bool, true, false, nat_lt, length, get_or, List, Option, Some, None, ℤ, pos, negsuc, ◌+ℤ◌, ◌-ℤ◌, ◌<ℤ◌, ◌≤ℤ◌, refl, sym, ◌∙◌, ◌⊎◌, inl, inr, arith}
use Rattle.std.specs.Prelude.{int_lt, slice_get}
use Rattle.std.proofs.lemmas.Int.{ints}
use Rattle.std.proofs.lemmas.Bool.{ltb-true, ltb-false, lt-ltb, le-ltb, eq-eqb, ne_eqb, cases_lt}
use Rattle.std.proofs.lemmas.Option.{slice_get_cases, slice_get_within}
use Rattle.timeline.specs.declared.offset.Transition.{Transition}
use Rattle.timeline.specs.Zone.{PlainZone, PlainRule}
use Rattle.timeline.specs.Rule.{start_is_first, first_entry, second_entry}
use Rattle.timeline.specs.Timeline.{entry_at, rule_entry, rule_year, before_entry, offset_of}
use Rattle.timeline.proofs.Entries.{int_lt_true, int_lt-true}

-- the jth year of a rule, which is one of those that have entries
pub record IsRuleYear (z : PlainZone) (r : PlainRule) (j : ℕ) : Type 0 where
  pub rule : z.rule ≡ Some r
  pub below : (r.first_year +ℤ pos j) <ℤ pos 2147483647

-- where the nth entry stands
pub data Stands (z : PlainZone) (n : ℕ) (e : Transition) : Type 0 where
  in_table : n < length z.table → slice_get z.table n ≡ Some e → Stands z n e
  is_first : (r : PlainRule) (j : ℕ) → IsRuleYear z r j → n ≡ length z.table + 2 * j → e ≡ first_entry r (r.first_year +ℤ pos j) → Stands z n e
  is_second : (r : PlainRule) (j : ℕ) → IsRuleYear z r j → n ≡ suc (length z.table + 2 * j) → e ≡ second_entry r (r.first_year +ℤ pos j) → Stands z n e

some_is : {A : Type 0} {a b : A} → Some a ≡ Some b → b ≡ a
some_is h = cc

-- ---- an entry of a rule

even_or_odd : (m : ℕ) → ((m % 2 ≡ 0) × (m ≡ 2 * (m / 2))) ⊎ ((m % 2 ≡ 0 → ⊥) × (m ≡ suc (2 * (m / 2))))
even_or_odd m = grind arith

rule_first : (r : PlainRule) (m : ℕ) → int_lt (rule_year r m) (pos 2147483647) ≡ true → m % 2 ≡ 0 → rule_entry (Some r) m ≡ Some (first_entry r (rule_year r m))
rule_first r m below even = rw (below, eq-eqb _ _ even) refl

rule_second : (r : PlainRule) (m : ℕ) → int_lt (rule_year r m) (pos 2147483647) ≡ true → (m % 2 ≡ 0 → ⊥) → rule_entry (Some r) m ≡ Some (second_entry r (rule_year r m))
rule_second r m below odd = rw (below, ne_eqb _ _ odd) refl

rule_none : (r : PlainRule) (m : ℕ) → int_lt (rule_year r m) (pos 2147483647) ≡ false → rule_entry (Some r) m ≡ None
rule_none r m past = rw past refl

in_rule : (z : PlainZone) (n m : ℕ) (e : Transition) (o : Option PlainRule) → z.rule ≡ o → n ≡ length z.table + m → rule_entry o m ≡ Some e → Stands z n e
in_rule z n m e None is place at = cc
in_rule z n m e (Some r) is place at = by (int_lt (rule_year r m) (pos 2147483647)) refl
  where
    which : int_lt (rule_year r m) (pos 2147483647) ≡ true → ((m % 2 ≡ 0) × (m ≡ 2 * (m / 2))) ⊎ ((m % 2 ≡ 0 → ⊥) × (m ≡ suc (2 * (m / 2)))) → Stands z n e
    which below (inl even) =
        is_first r (m / 2) (record { rule = is; below = int_lt_true _ _ below }) (omega arith)
        (some_is (sym (rule_first r m below even.0) ∙ at))
    which below (inr odd) =
        is_second r (m / 2) (record { rule = is; below = int_lt_true _ _ below }) (let odd_is = odd.1 in omega (arith, odd_is))
        (some_is (sym (rule_second r m below odd.0) ∙ at))

    by : (c : Bool) → int_lt (rule_year r m) (pos 2147483647) ≡ c → Stands z n e
    by true h = which h (even_or_odd m)
    by false h = let none = sym (rule_none r m h) ∙ at in cc

-- ---- each entry stands somewhere

below_table : (z : PlainZone) (n : ℕ) → nat_lt n (length z.table) ≡ true → entry_at z n ≡ slice_get z.table n
below_table z n h = rw h refl

past_table : (z : PlainZone) (n : ℕ) → nat_lt n (length z.table) ≡ false → entry_at z n ≡ rule_entry z.rule (n - length z.table)
past_table z n h = rw h refl

pub stands : (z : PlainZone) (n : ℕ) (e : Transition) → entry_at z n ≡ Some e → Stands z n e
stands z n e at = by (nat_lt n (length z.table)) refl
  where
    by : (c : Bool) → nat_lt n (length z.table) ≡ c → Stands z n e
    by true h = in_table (ltb-true _ _ h) (sym (below_table z n h) ∙ at)
    by false h = let past = ltb-false _ _ h in in_rule z n (n - length z.table) e z.rule refl (omega (arith, past)) (sym (past_table z n h) ∙ at)

-- ---- and each place has its entry

pub table_entry : (z : PlainZone) (n : ℕ) → n < length z.table → entry_at z n ≡ slice_get z.table n
table_entry z n lt = below_table z n (lt-ltb _ _ lt)

-- the one of a place in the table is that of the table
pub table_at : (z : PlainZone) (n : ℕ) (e : Transition) → slice_get z.table n ≡ Some e → entry_at z n ≡ Some e
table_at z n e at = table_entry z n (slice_get_within z.table n e at) ∙ at

rule_place : (z : PlainZone) (r : PlainRule) (n m : ℕ) → z.rule ≡ Some r → n ≡ length z.table + m → entry_at z n ≡ rule_entry (Some r) m
rule_place z r n m is place =
    let m_is : n - length z.table ≡ m = omega arith in
    let past : length z.table ≤ n = omega arith in
    past_table z n (le-ltb _ _ past) ∙ rw (is, m_is) refl

half_even : (j : ℕ) → (2 * j) / 2 ≡ j
half_even j = omega arith

half_odd : (j : ℕ) → suc (2 * j) / 2 ≡ j
half_odd j = omega arith

pub first_at : (z : PlainZone) (r : PlainRule) (j n : ℕ) → IsRuleYear z r j → n ≡ length z.table + 2 * j → entry_at z n ≡ Some (first_entry r (r.first_year +ℤ pos j))
first_at z r j n year place = rule_place z r n (2 * j) year.rule place ∙ first_is
  where
    below : int_lt (rule_year r (2 * j)) (pos 2147483647) ≡ true
    below = rw (half_even j) (int_lt-true _ _ year.below)

    first_is : rule_entry (Some r) (2 * j) ≡ Some (first_entry r (r.first_year +ℤ pos j))
    first_is = rule_first r (2 * j) below (omega arith) ∙ rw (half_even j) refl

pub second_at : (z : PlainZone) (r : PlainRule) (j n : ℕ) → IsRuleYear z r j → n ≡ suc (length z.table + 2 * j) → entry_at z n ≡ Some (second_entry r (r.first_year +ℤ pos j))
second_at z r j n year place = rule_place z r n (suc (2 * j)) year.rule (omega arith) ∙ second_is
  where
    below : int_lt (rule_year r (suc (2 * j))) (pos 2147483647) ≡ true
    below = rw (half_odd j) (int_lt-true _ _ year.below)

    second_is : rule_entry (Some r) (suc (2 * j)) ≡ Some (second_entry r (r.first_year +ℤ pos j))
    second_is = rule_second r (suc (2 * j)) below (λ even. omega arith) ∙ rw (half_odd j) refl

-- ---- the offset before

pub before_next : (z : PlainZone) (n : ℕ) (e : Transition) → entry_at z n ≡ Some e → before_entry z (suc n) ≡ offset_of e
before_next z n e at = rw at refl

-- what the second transition of a year brings does not depend on the year
pub same_second : (r : PlainRule) (x y : ℤ) → offset_of (second_entry r x) ≡ offset_of (second_entry r y)
same_second r x y = by (start_is_first r) refl
  where
    by : (c : Bool) → start_is_first r ≡ c → offset_of (second_entry r x) ≡ offset_of (second_entry r y)
    by true h = rw h refl
    by false h = rw h refl

-- ---- how many there are

pub is_there : {A : Type 0} (xs : List A) (n : ℕ) → n < length xs → (x : A) × (slice_get xs n ≡ Some x)
is_there {A = A} xs n lt = by (slice_get_cases xs n).1
  where
    by : ((x : A) × (n < length xs) × (slice_get xs n ≡ Some x) × (get_or xs n x ≡ x)) ⊎ ((length xs ≤ n) × (slice_get xs n ≡ None)) → (x : A) × (slice_get xs n ≡ Some x)
    by (inl some) = (some.0, some.2)
    by (inr past) = let past_it = past.0 in absurd (omega arith)

-- how many numbers from 0 on are below this one
abbrev numbers_below : ℤ → ℕ
numbers_below (pos n) = n
numbers_below (negsuc n) = 0

rule_count : Option PlainRule → ℕ
rule_count None = 0
rule_count (Some r) = 2 * numbers_below (pos 2147483647 -ℤ r.first_year)

pub entry_count : PlainZone → ℕ
entry_count z = length z.table + rule_count z.rule

year_within : (first : ℤ) (j : ℕ) → (first +ℤ pos j) <ℤ pos 2147483647 → j < numbers_below (pos 2147483647 -ℤ first)
year_within first j below = by (pos 2147483647 -ℤ first) (omega (arith, ints))
  where
    by : (a : ℤ) → pos j <ℤ a → j < numbers_below a
    by (pos n) lt = omega (arith, ints)
    by (negsuc n) lt = absurd (omega (arith, ints))

year_below : (first : ℤ) (j : ℕ) → j < numbers_below (pos 2147483647 -ℤ first) → (first +ℤ pos j) <ℤ pos 2147483647
year_below first j within = let lt = by (pos 2147483647 -ℤ first) within in omega (arith, ints, lt)
  where
    by : (a : ℤ) → j < numbers_below a → pos j <ℤ a
    by (pos n) lt = omega (arith, ints)
    by (negsuc n) lt = absurd (omega (arith, ints))

rule_within : (z : PlainZone) (r : PlainRule) (j : ℕ) → IsRuleYear z r j → suc (length z.table + 2 * j) < entry_count z
unfolding entry_count rule_count
rule_within z r j year = let within = year_within r.first_year j year.below in let is = year.rule in rw is (omega (arith, within))

pub entry_within : (z : PlainZone) (n : ℕ) (e : Transition) → entry_at z n ≡ Some e → n < entry_count z
unfolding entry_count
entry_within z n e at = by (stands z n e at)
  where
    by : Stands z n e → n < entry_count z
    by (in_table lt is) = omega arith
    by (is_first r j year place is) = let within = rule_within z r j year in omega arith
    by (is_second r j year place is) = let within = rule_within z r j year in omega arith

there_in_rule : (z : PlainZone) (n m : ℕ) (o : Option PlainRule) → z.rule ≡ o → n ≡ length z.table + m → m < rule_count o → (e : Transition) × (entry_at z n ≡ Some e)
unfolding rule_count
there_in_rule z n m None is place lt = absurd (omega arith)
there_in_rule z n m (Some r) is place lt = by (even_or_odd m)
  where
    year : m / 2 < numbers_below (pos 2147483647 -ℤ r.first_year) → IsRuleYear z r (m / 2)
    year h = record { rule = is; below = year_below r.first_year (m / 2) h }

    by : ((m % 2 ≡ 0) × (m ≡ 2 * (m / 2))) ⊎ ((m % 2 ≡ 0 → ⊥) × (m ≡ suc (2 * (m / 2)))) → (e : Transition) × (entry_at z n ≡ Some e)
    by (inl even) = (first_entry r (r.first_year +ℤ pos (m / 2)), first_at z r (m / 2) n (year (omega arith)) (omega arith))
    by (inr odd) = (second_entry r (r.first_year +ℤ pos (m / 2)), second_at z r (m / 2) n (year (omega arith)) (let odd_is = odd.1 in omega (arith, odd_is)))

pub entry_there : (z : PlainZone) (n : ℕ) → n < entry_count z → (e : Transition) × (entry_at z n ≡ Some e)
unfolding entry_count
entry_there z n lt = by (cases_lt n (length z.table))
  where
    by : (n < length z.table) ⊎ (length z.table ≤ n) → (e : Transition) × (entry_at z n ≡ Some e)
    by (inl before) = let some = is_there z.table n before in (some.0, table_entry z n before ∙ some.1)
    by (inr past) = there_in_rule z n (n - length z.table) z.rule refl (omega arith) (omega arith)

pub table_counted : (z : PlainZone) → length z.table ≤ entry_count z
unfolding entry_count
table_counted z = omega arith

-- with a rule, they are the table and two for each of the years before the limit
pub record CountsTo (z : PlainZone) (r : PlainRule) (c : ℕ) : Type 0 where
  pub count : entry_count z ≡ length z.table + 2 * c
  pub years : (j : ℕ) → j < c → IsRuleYear z r j
  pub end : (y : ℤ) → r.first_year ≤ℤ y → pos 2147483647 ≤ℤ y → (r.first_year +ℤ pos c) ≤ℤ y

last_year : (first y : ℤ) → first ≤ℤ y → pos 2147483647 ≤ℤ y → (first +ℤ pos (numbers_below (pos 2147483647 -ℤ first))) ≤ℤ y
last_year first y from past = let most = by (pos 2147483647 -ℤ first) (y -ℤ first) (omega (arith, ints, past)) (omega (arith, ints, from)) in omega (arith, ints, most)
  where
    by : (a b : ℤ) → a ≤ℤ b → pos 0 ≤ℤ b → pos (numbers_below a) ≤ℤ b
    by (pos n) b le positive = le
    by (negsuc n) b le positive = positive

pub counts_to : (z : PlainZone) (r : PlainRule) → z.rule ≡ Some r → (c : ℕ) × CountsTo z r c
unfolding entry_count rule_count
counts_to z r rule = (
  numbers_below (pos 2147483647 -ℤ r.first_year),
  record {
    count = rw rule refl;
    years = λ j lt. record { rule = rule; below = year_below r.first_year j lt };
    end = λ y from past. last_year r.first_year y from past;
  },
)
