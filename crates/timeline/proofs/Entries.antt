-- What is in force at a second is what its last entry not after it says.
use Rattle.std.proofs.Common.{◌≡◌, ℕ, zero, suc, ◌+◌, ◌-◌, ◌*◌, ◌/◌, ◌<◌, ◌≤◌, Bool, true, false, nat_lt, length, Option, Some, None, ℤ, pos, negsuc, ◌-ℤ◌, ◌<ℤ◌, ◌≤ℤ◌, refl, sym, ap, ◌∙◌, subst, ◌⊎◌, inl, inr, arith}
use Rattle.std.specs.Prelude.{int_lt, unsigned_abs}
use Rattle.std.proofs.lemmas.Int.{ints}
use Rattle.std.proofs.lemmas.Bool.{ltb-true, ltb-false}
use Rattle.timeline.specs.declared.offset.Offset.{Offset}
use Rattle.timeline.specs.declared.offset.Transition.{Transition}
use Rattle.timeline.specs.Zone.{PlainZone, PlainRule}
use Rattle.timeline.specs.Timeline.{Holds, first, entry, entry_at, entry_bound, rule_entry, rule_year, in_force, offset_at, offset_of}

pub int_lt_true : (a b : ℤ) → int_lt a b ≡ true → a <ℤ b
int_lt_true a b h = grind (arith, ints)

pub int_lt_false : (a b : ℤ) → int_lt a b ≡ false → b ≤ℤ a
int_lt_false a b h = grind (arith, ints)

pub int_lt-true : (a b : ℤ) → a <ℤ b → int_lt a b ≡ true
int_lt-true a b h = grind (arith, ints)

pub int_lt-false : (a b : ℤ) → b ≤ℤ a → int_lt a b ≡ false
int_lt-false a b h = grind (arith, ints)

pub below_or_not : (a b : ℤ) → (a <ℤ b) ⊎ (b ≤ℤ a)
below_or_not a b = by (int_lt a b) refl
  where
    by : (c : Bool) → int_lt a b ≡ c → (a <ℤ b) ⊎ (b ≤ℤ a)
    by true h = inl (int_lt_true a b h)
    by false h = inr (int_lt_false a b h)

pub some_or_none : {A : Type 0} (o : Option A) → (o ≡ None) ⊎ ((x : A) × (o ≡ Some x))
some_or_none None = inl refl
some_or_none (Some x) = inr (x, refl)

pub last_or_before : (m n : ℕ) → m < suc n → (m < n) ⊎ (m ≡ n)
last_or_before m n lt = grind arith

-- ---- where entries end

size_above : (a : ℤ) (n : ℕ) → pos n <ℤ a → n < unsigned_abs a
size_above (pos a) n lt = omega (arith, ints)
size_above (negsuc a) n lt = absurd (omega (arith, ints))

doubled : (n u : ℕ) → n / 2 < u → n < 2 * u
doubled n u lt = omega arith

rule_bounded : (r : PlainRule) (m : ℕ) (e : Transition) → rule_entry (Some r) m ≡ Some e → m < 2 * unsigned_abs (pos 2147483647 -ℤ r.first_year)
rule_bounded r m e at = by (int_lt (rule_year r m) (pos 2147483647)) refl
  where
    by : (c : Bool) → int_lt (rule_year r m) (pos 2147483647) ≡ c → m < 2 * unsigned_abs (pos 2147483647 -ℤ r.first_year)
    by true h =
        let year : rule_year r m <ℤ pos 2147483647 = int_lt_true _ _ h in
        let half : pos (m / 2) <ℤ (pos 2147483647 -ℤ r.first_year) = omega (arith, ints) in
        let size = size_above (pos 2147483647 -ℤ r.first_year) (m / 2) half in
        doubled m (unsigned_abs (pos 2147483647 -ℤ r.first_year)) size
    by false h = let none = rw h at at in cc

rule_bound : (z : PlainZone) (m : ℕ) (e : Transition) (o : Option PlainRule) → z.rule ≡ o → rule_entry o m ≡ Some e → length z.table + m < entry_bound z
unfolding entry_bound
rule_bound z m e None is at = cc
rule_bound z m e (Some r) is at = rw is (let h = rule_bounded r m e at in omega (arith, h))

entry_bounded : (z : PlainZone) (n : ℕ) (e : Transition) → entry_at z n ≡ Some e → n < entry_bound z
unfolding entry_bound
entry_bounded z n e at = by (nat_lt n (length z.table)) refl
  where
    by : (c : Bool) → nat_lt n (length z.table) ≡ c → n < entry_bound z
    by true h = let lt = ltb-true _ _ h in omega arith
    by false h =
        let past = ltb-false _ _ h in
        let in_rule : rule_entry z.rule (n - length z.table) ≡ Some e = rw h at at in
        let bound = rule_bound z (n - length z.table) e z.rule refl in_rule in
        omega (arith, bound, past)

-- ---- the first entries

-- by the first n entries: all of them are after t, or the kth is the last one not after t
abbrev SomeHolds : PlainZone → ℤ → ℕ → Offset → Type 0
SomeHolds z t n o =
    (((m : ℕ) (f : Transition) → entry_at z m ≡ Some f → m < n → t <ℤ f.since) × (o ≡ z.initial))
    ⊎ ((k : ℕ) × (e : Transition) × (entry_at z k ≡ Some e) × (e.since ≤ℤ t) × (o ≡ offset_of e)
    × ((m : ℕ) (f : Transition) → entry_at z m ≡ Some f → m < n → f.since ≤ℤ t → m ≤ k))

-- where the nth entry is after t, nothing changes
keeps : (z : PlainZone) (t : ℤ) (n : ℕ) (o : Offset) → ((f : Transition) → entry_at z n ≡ Some f → t <ℤ f.since) → SomeHolds z t n o → SomeHolds z t (suc n) o
keeps z t n o after (inl h) = inl ((λ m f at lt. by m f at (last_or_before m n lt)), h.1)
  where
    by : (m : ℕ) (f : Transition) → entry_at z m ≡ Some f → (m < n) ⊎ (m ≡ n) → t <ℤ f.since
    by m f at (inl lt) = h.0 m f at lt
    by m f at (inr same) = after f (ap (entry_at z) (sym same) ∙ at)
keeps z t n o after (inr h) = inr (h.0, h.1, h.2, h.3, h.4, λ m f at lt le. by m f at le (last_or_before m n lt))
  where
    by : (m : ℕ) (f : Transition) → entry_at z m ≡ Some f → f.since ≤ℤ t → (m < n) ⊎ (m ≡ n) → m ≤ h.0
    by m f at le (inl lt) = h.5 m f at lt le
    by m f at le (inr same) = let late = after f (ap (entry_at z) (sym same) ∙ at) in absurd (omega (arith, ints, late, le))

none_there : (z : PlainZone) (t : ℤ) (n : ℕ) → entry_at z n ≡ None → in_force z t (suc n) ≡ in_force z t n
unfolding in_force
none_there z t n at = rw at

still_after : (z : PlainZone) (t : ℤ) (n : ℕ) (e : Transition) → entry_at z n ≡ Some e → int_lt t e.since ≡ true → in_force z t (suc n) ≡ in_force z t n
unfolding in_force
still_after z t n e at h = rw (at, h)

taken_over : (z : PlainZone) (t : ℤ) (n : ℕ) (e : Transition) → entry_at z n ≡ Some e → int_lt t e.since ≡ false → in_force z t (suc n) ≡ offset_of e
unfolding in_force
taken_over z t n e at h = rw (at, h)

next : (z : PlainZone) (t : ℤ) (n : ℕ) → (entry_at z n ≡ None) ⊎ ((e : Transition) × (entry_at z n ≡ Some e)) → SomeHolds z t n (in_force z t n)
    → SomeHolds z t (suc n) (in_force z t (suc n))
next z t n (inl none) h =
    subst (SomeHolds z t (suc n)) (sym (none_there z t n none)) (keeps z t n _ (λ f at. let no = sym none ∙ at in cc) h)
next z t n (inr some) h = by (int_lt t some.0.since) refl
  where
    by : (c : Bool) → int_lt t some.0.since ≡ c → SomeHolds z t (suc n) (in_force z t (suc n))
    by true later =
        subst (SomeHolds z t (suc n)) (sym (still_after z t n some.0 some.1 later))
        (keeps z t n _ (λ f at. let same : some.0 ≡ f = cc (sym some.1 ∙ at) in subst (λ (f : Transition). t <ℤ f.since) same (int_lt_true _ _ later)) h)
    by false here =
        inr (n, some.0, some.1, int_lt_false _ _ here, taken_over z t n some.0 some.1 here, λ m f at lt le. omega arith)

some_holds : (z : PlainZone) (t : ℤ) (n : ℕ) → SomeHolds z t n (in_force z t n)
unfolding in_force
some_holds z t zero = inl ((λ m f at lt. absurd (omega arith)), refl)
some_holds z t (suc n) = next z t n (some_or_none (entry_at z n)) (some_holds z t n)

pub last-holds : (z : PlainZone) (t : ℤ) → Holds z t (offset_at z t)
unfolding offset_at
last-holds z t = by (in_force z t (entry_bound z)) (some_holds z t (entry_bound z))
  where
    by : (o : Offset) → SomeHolds z t (entry_bound z) o → Holds z t o
    by o (inl h) = subst (Holds z t) (sym h.1) (first (λ n e at. h.0 n e at (entry_bounded z n e at)))
    by o (inr h) = subst (Holds z t) (sym h.4) (entry h.0 h.1 h.2 h.3 (λ m f at le. h.5 m f at (entry_bounded z m f at) le))
