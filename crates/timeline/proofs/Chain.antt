-- Transitions in a row, as numbers: what neighbours keep decides what is in force when, and which seconds show a wall second.
use Rattle.std.proofs.Common.{◌≡◌, ℕ, zero, suc, ◌<◌, ◌≤◌, ◌⊎◌, inl, inr, refl, ℤ, ◌<ℤ◌, ◌≤ℤ◌, arith}
use Rattle.std.proofs.lemmas.Int.{ints}
use Rattle.timeline.specs.Neighbours.{Step, IsNear, IsWalled}
use Rattle.timeline.proofs.Entries.{below_or_not, last_or_before}

-- before the nth transition `offset n` holds, and from its second on `offset (suc n)`
abbrev pub step_at : (ℕ → ℤ) → (ℕ → ℤ) → ℕ → Step
step_at since offset n = record { since = since n; before = offset n; after = offset (suc n) }

-- a transition and the next; two at one second change nothing
pub record Follows (a b : Step) : Type 0 where
  pub rises : a.since ≤ℤ b.since
  pub alone : b.since ≤ℤ a.since → (a.before ≡ a.after) × (b.before ≡ b.after)
  pub near : IsNear a b
  pub walled : IsWalled a b

-- `count` transitions, each followed by the next
pub record IsChain (count : ℕ) (since offset : ℕ → ℤ) : Type 0 where
  pub follows : (n : ℕ) → suc n < count → Follows (step_at since offset n) (step_at since offset (suc n))

-- ---- order

pub rises : {count : ℕ} {since offset : ℕ → ℤ} → IsChain count since offset → (m n : ℕ) → m ≤ n → n < count → since m ≤ℤ since n
rises chain m zero le lt = let same : m ≡ zero = omega arith in rw same (omega (arith, ints))
rises {since = since} chain m (suc n) le lt = elim (last_or_before m (suc n) (omega arith)) as (λ _. since m ≤ℤ since (suc n)) [
  | inl before ↦ (let earlier = rises chain m n (omega arith) (omega arith) in let next = (chain.follows n lt).rises in omega (arith, ints, earlier, next))
  | inr same ↦ rw same (omega (arith, ints))
]

walled_on : (a b c : Step) → IsWalled a b → IsWalled b c → IsWalled a c
walled_on a b c ab bc = record {
  old_old = omega (arith, ints, ab.old_old, bc.old_old);
  old_new = omega (arith, ints, ab.old_old, bc.old_new);
  new_old = omega (arith, ints, ab.new_old, bc.old_old);
  new_new = omega (arith, ints, ab.new_old, bc.old_new);
}

pub walled : {count : ℕ} {since offset : ℕ → ℤ} → IsChain count since offset → (m n : ℕ) → m < n → n < count
    → IsWalled (step_at since offset m) (step_at since offset n)
walled chain m zero less lt = absurd (omega arith)
walled {since = since} {offset = offset} chain m (suc n) less lt =
    elim (last_or_before m n less) as (λ _. IsWalled (step_at since offset m) (step_at since offset (suc n))) [
      | inl before ↦ walled_on _ _ _ (walled chain m n before (omega arith)) (chain.follows n lt).walled
      | inr same ↦ rw same (chain.follows n lt).walled
    ]

-- ---- places

-- the first k of n numbers have P, and the kth, if it is one of them, has Q
pub record Stops (P Q : ℕ → Type 0) (n k : ℕ) : Type 0 where
  pub within : k ≤ n
  pub passed : (m : ℕ) → m < k → P m
  pub stop : k < n → Q k

pub stops : (P Q : ℕ → Type 0) → ((m : ℕ) → P m ⊎ Q m) → (n : ℕ) → (k : ℕ) × Stops P Q n k
stops P Q either zero = (0, record { within = omega arith; passed = λ m lt. absurd (omega arith); stop = λ lt. absurd (omega arith) })
stops P Q either (suc n) = by (stops P Q either n)
  where
    at_end : (k : ℕ) → Stops P Q n k → k ≡ n → P n ⊎ Q n → (k' : ℕ) × Stops P Q (suc n) k'
    at_end k found same (inl here) = (
      suc n,
      record {
        within = omega arith;
        passed = λ m lt. elim (last_or_before m n lt) as (λ _. P m) [
          | inl before ↦ found.passed m (omega arith)
          | inr same_m ↦ rw same_m here
        ];
        stop = λ lt. absurd (omega arith);
      },
    )
    at_end k found same (inr here) = (
      n,
      record {
        within = omega arith;
        passed = λ m lt. found.passed m (omega arith);
        stop = λ _. here;
      },
    )

    by : (k : ℕ) × Stops P Q n k → (k' : ℕ) × Stops P Q (suc n) k'
    by found = elim (last_or_before found.0 n (let h = found.1.within in omega arith)) as (λ _. (k' : ℕ) × Stops P Q (suc n) k') [
      | inl before ↦ (found.0, record { within = omega arith; passed = found.1.passed; stop = λ _. found.1.stop (omega arith) })
      | inr last ↦ at_end found.0 found.1 (omega arith) (either n)
    ]

-- ---- what is in force at a second

-- the first k transitions are not after t, and the others are
pub record IsAt (count : ℕ) (since : ℕ → ℤ) (t : ℤ) (k : ℕ) : Type 0 where
  pub within : k ≤ count
  pub passed : (n : ℕ) → n < k → since n ≤ℤ t
  pub ahead : (n : ℕ) → k ≤ n → n < count → t <ℤ since n

-- it is enough to look at the two around it
pub is_at : {count : ℕ} {since offset : ℕ → ℤ} → IsChain count since offset → (t : ℤ) (k : ℕ) → k ≤ count
    → ((j : ℕ) → suc j ≡ k → since j ≤ℤ t) → (k < count → t <ℤ since k) → IsAt count since t k
is_at {count = count} {since = since} chain t zero le last next = record {
  within = le;
  passed = λ n lt. absurd (omega arith);
  ahead = λ n from lt. let up = rises chain zero n from lt in let here = next (omega arith) in omega (arith, ints, up, here);
}
is_at {count = count} {since = since} chain t (suc j) le last next = record {
  within = le;
  passed = λ n lt. let up = rises chain n j (omega arith) (omega arith) in let here = last j refl in omega (arith, ints, up, here);
  ahead = λ n from lt. let up = rises chain (suc j) n from lt in let here = next (omega arith) in omega (arith, ints, up, here);
}

pub place_of : {count : ℕ} {since offset : ℕ → ℤ} → IsChain count since offset → (t : ℤ) → (k : ℕ) × IsAt count since t k
place_of {count = count} {since = since} chain t =
    by (stops (λ m. since m ≤ℤ t) (λ m. t <ℤ since m) (λ m. either m) count)
  where
    either : (m : ℕ) → (since m ≤ℤ t) ⊎ (t <ℤ since m)
    either m = elim (below_or_not t (since m)) as (λ _. (since m ≤ℤ t) ⊎ (t <ℤ since m)) [ inl lt ↦ inr lt | inr le ↦ inl le ]

    by : (k : ℕ) × Stops (λ m. since m ≤ℤ t) (λ m. t <ℤ since m) count k → (k : ℕ) × IsAt count since t k
    by found = (found.0, is_at chain t found.0 found.1.within (λ j last. found.1.passed j (omega arith)) found.1.stop)
