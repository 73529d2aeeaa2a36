-- The entries of a table that are not after a second are its first ones, where the table rises.
use Rattle.std.proofs.Common.{◌≡◌, ℕ, zero, suc, ◌+◌, ◌<◌, ◌≤◌, Bool, true, false, not, cond, ◌⊎◌, inl, inr, List, [], ◌∷◌, length, Some, ℤ, ◌<ℤ◌, ◌≤ℤ◌, refl, ◌∙◌, arith}
use Rattle.std.specs.Prelude.{int_lt, slice_get, count_by, option_map}
use Rattle.std.proofs.lemmas.Int.{ints}
use Rattle.std.proofs.lemmas.Option.{slice_get_within}
use Rattle.std.proofs.lemmas.List.Sums.{sum_by-cons}
use Rattle.timeline.specs.declared.offset.Transition.{Transition}
use Rattle.timeline.specs.Zone.{PlainZone}
use Rattle.timeline.specs.Timeline.{table_place}
use Rattle.timeline.specs.TableLaws.{KeepsOrder}
use Rattle.timeline.proofs.Entries.{below_or_not, last_or_before}
use Rattle.timeline.proofs.Chain.{Stops, stops}
use Rattle.timeline.proofs.TimelineEntries.{is_there, table_entry}
use Rattle.timeline.proofs.TimelineRises.{entry_since, since_is}

counted : {X : Type 0} (p : X → Bool) (x : X) (xs : List X) (k : ℕ) → p x ≡ true → count_by p xs ≡ k → count_by p (x ∷ xs) ≡ suc k
counted p x xs k is rest = sum_by-cons (λ y. cond (p y) 1 0) x xs ∙ rw is (omega (arith, rest))

passed_over : {X : Type 0} (p : X → Bool) (x : X) (xs : List X) (k : ℕ) → p x ≡ false → count_by p xs ≡ k → count_by p (x ∷ xs) ≡ k
passed_over p x xs k is rest = sum_by-cons (λ y. cond (p y) 1 0) x xs ∙ rw is (omega (arith, rest))

-- the first k elements pass a test, and the others do not
pub count_is : {X : Type 0} (p : X → Bool) (xs : List X) (k : ℕ) → k ≤ length xs
    → ((n : ℕ) (x : X) → slice_get xs n ≡ Some x → n < k → p x ≡ true) → ((n : ℕ) (x : X) → slice_get xs n ≡ Some x → k ≤ n → p x ≡ false)
    → count_by p xs ≡ k
count_is p [] k le pass fail = omega arith
count_is p (x ∷ xs) zero le pass fail =
    passed_over p x xs zero (fail zero x refl (omega arith))
    (count_is p xs zero (omega arith) (λ n y at lt. absurd (omega arith)) (λ n y at from. fail (suc n) y at (omega arith)))
count_is p (x ∷ xs) (suc k) le pass fail =
    counted p x xs k (pass zero x refl (omega arith))
    (count_is p xs k (omega arith) (λ n y at lt. pass (suc n) y at (omega arith)) (λ n y at from. fail (suc n) y at (omega arith)))

-- the first k entries of the table are not after t, and its others are
pub record IsTablePlace (z : PlainZone) (t : ℤ) (k : ℕ) : Type 0 where
  pub within : k ≤ length z.table
  pub passed : (n : ℕ) (e : Transition) → slice_get z.table n ≡ Some e → n < k → e.since ≤ℤ t
  pub ahead : (n : ℕ) (e : Transition) → slice_get z.table n ≡ Some e → k ≤ n → t <ℤ e.since

not_lt : (a b : ℤ) → b ≤ℤ a → not (int_lt a b) ≡ true
not_lt a b h = grind (arith, ints)

is_lt : (a b : ℤ) → a <ℤ b → not (int_lt a b) ≡ false
is_lt a b h = grind (arith, ints)

pub table_place_is : (z : PlainZone) (t : ℤ) (k : ℕ) → IsTablePlace z t k → table_place z t ≡ k
table_place_is z t k h =
    count_is (λ (e : Transition). not (int_lt t e.since)) z.table k h.within
    (λ n e at lt. not_lt t e.since (h.passed n e at lt)) (λ n e at from. is_lt t e.since (h.ahead n e at from))

-- a table whose neighbours rise, rises
pub table_rises : (z : PlainZone) (m n : ℕ) (a b : Transition) → KeepsOrder z → slice_get z.table m ≡ Some a → slice_get z.table n ≡ Some b → m ≤ n → a.since ≤ℤ b.since
table_rises z m zero a b order at_a at_b le =
    let same : m ≡ zero = omega arith in
    let is : a ≡ b = cc (rw same at at_a) in
    rw is (omega (arith, ints))
table_rises z m (suc n) a b order at_a at_b le = by (last_or_before m (suc n) (omega arith)) (is_there z.table n (omega (arith, slice_get_within z.table (suc n) b at_b))) (λ e at before. table_rises z m n a e order at_a at before)
  where
    by : (m < suc n) ⊎ (m ≡ suc n) → (e : Transition) × (slice_get z.table n ≡ Some e) → ((e : Transition) → slice_get z.table n ≡ Some e → m ≤ n → a.since ≤ℤ e.since) → a.since ≤ℤ b.since
    by (inl before) there earlier =
        let next : suc n ≡ n + 1 = omega arith in
        let step = order n there.0 b there.1 (rw (← next) at_b) in
        let up = earlier there.0 there.1 (omega arith) in
        omega (arith, ints, step, up)
    by (inr same) there earlier = let is : a ≡ b = cc (rw same at at_a) in rw is (omega (arith, ints))

-- so those not after a second are its first ones
pub table_placed : (z : PlainZone) (t : ℤ) → KeepsOrder z → IsTablePlace z t (table_place z t)
table_placed z t order = by (stops (λ m. entry_since z m ≤ℤ t) (λ m. t <ℤ entry_since z m) either (length z.table))
  where
    either : (m : ℕ) → (entry_since z m ≤ℤ t) ⊎ (t <ℤ entry_since z m)
    either m = elim (below_or_not t (entry_since z m)) as (λ _. (entry_since z m ≤ℤ t) ⊎ (t <ℤ entry_since z m)) [ inl lt ↦ inr lt | inr le ↦ inl le ]

    since : (n : ℕ) (e : Transition) → slice_get z.table n ≡ Some e → entry_since z n ≡ e.since
    since n e at = since_is z n e (table_entry z n (slice_get_within z.table n e at) ∙ at)

    place : (k : ℕ) → Stops (λ m. entry_since z m ≤ℤ t) (λ m. t <ℤ entry_since z m) (length z.table) k → IsTablePlace z t k
    place k h = record {
      within = h.within;
      passed = λ n e at lt. rw (since n e at) at (h.passed n lt);
      ahead = λ n e at from.
          let within = slice_get_within z.table n e at in
          let stop = h.stop (omega arith) in
          let there = is_there z.table k (omega arith) in
          let first = since k there.0 there.1 in
          let up = table_rises z k n there.0 e order there.1 at from in
          omega (arith, ints, stop, up, first);
    }

    by : (k : ℕ) × Stops (λ m. entry_since z m ≤ℤ t) (λ m. t <ℤ entry_since z m) (length z.table) k → IsTablePlace z t (table_place z t)
    by found = let h = place found.0 found.1 in rw (table_place_is z t found.0 h) h

-- ---- by halving

-- the second of an entry
since_of : (z : PlainZone) (m : ℕ) (e : Transition) (s : ℤ) → slice_get z.table m ≡ Some e → option_map (λ (e : Transition). e.since) (slice_get z.table m) ≡ Some s → e.since ≡ s
since_of z m e s at is = let same : Some e.since ≡ Some s = rw at at is in cc

-- the entries up to one that is not after t are not after it
pub passed_to : (z : PlainZone) (t s : ℤ) (m : ℕ) → KeepsOrder z → m < length z.table → option_map (λ (e : Transition). e.since) (slice_get z.table m) ≡ Some s → s ≤ℤ t
    → (k : ℕ) (f : Transition) → slice_get z.table k ≡ Some f → k < m + 1 → f.since ≤ℤ t
passed_to z t s m order within is le k f at_k lt =
    let e = is_there z.table m within in
    let up = table_rises z k m f e.0 order at_k e.1 (omega arith) in
    let same = since_of z m e.0 s e.1 is in
    omega (arith, ints, up, same, le)

-- and those from one on that is after t are after it
pub ahead_from : (z : PlainZone) (t s : ℤ) (m : ℕ) → KeepsOrder z → m < length z.table → option_map (λ (e : Transition). e.since) (slice_get z.table m) ≡ Some s → t <ℤ s
    → (k : ℕ) (f : Transition) → slice_get z.table k ≡ Some f → m ≤ k → t <ℤ f.since
ahead_from z t s m order within is lt k f at_k le =
    let e = is_there z.table m within in
    let up = table_rises z m k e.0 f order e.1 at_k le in
    let same = since_of z m e.0 s e.1 is in
    omega (arith, ints, up, same, lt)
