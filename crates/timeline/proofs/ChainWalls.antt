-- Which seconds show a wall second, in a row of transitions: one; or two, on the two sides of one transition; or none, in one gap.
use Rattle.std.proofs.Common.{◌≡◌, ℕ, zero, suc, ◌<◌, ◌≤◌, ◌⊎◌, inl, inr, refl, ℤ, ◌+ℤ◌, ◌-ℤ◌, ◌<ℤ◌, ◌≤ℤ◌, arith}
use Rattle.std.proofs.lemmas.Int.{ints}
use Rattle.std.proofs.lemmas.Bool.{cases_lt}
use Rattle.timeline.specs.Neighbours.{Step, old_wall, new_wall, IsWalled}
use Rattle.timeline.proofs.Entries.{below_or_not, last_or_before}
use Rattle.timeline.proofs.Chain.{IsChain, IsAt, Stops, step_at, is_at, stops, walled}

-- neither wall is after w
pub record IsBehind (w : ℤ) (s : Step) : Type 0 where
  pub old : old_wall s ≤ℤ w
  pub new : new_wall s ≤ℤ w

-- both walls are after w
pub record IsAhead (w : ℤ) (s : Step) : Type 0 where
  pub old : w <ℤ old_wall s
  pub new : w <ℤ new_wall s

-- clocks are put forward over w
pub record Skips (w : ℤ) (s : Step) : Type 0 where
  pub old : old_wall s ≤ℤ w
  pub new : w <ℤ new_wall s

-- clocks are put back over w
pub record Repeats (w : ℤ) (s : Step) : Type 0 where
  pub new : new_wall s ≤ℤ w
  pub old : w <ℤ old_wall s

-- each transition is one of these to w
pub data Side (w : ℤ) (s : Step) : Type 0 where
  is_behind : IsBehind w s → Side w s
  is_ahead : IsAhead w s → Side w s
  does_skip : Skips w s → Side w s
  does_repeat : Repeats w s → Side w s

pub side_of : (w : ℤ) (s : Step) → Side w s
side_of w s = by (below_or_not w (old_wall s)) (below_or_not w (new_wall s))
  where
    by : (w <ℤ old_wall s) ⊎ (old_wall s ≤ℤ w) → (w <ℤ new_wall s) ⊎ (new_wall s ≤ℤ w) → Side w s
    by (inl old) (inl new) = is_ahead (record { old = old; new = new })
    by (inl old) (inr new) = does_repeat (record { new = new; old = old })
    by (inr old) (inl new) = does_skip (record { old = old; new = new })
    by (inr old) (inr new) = is_behind (record { old = old; new = new })

-- w lies between its walls
abbrev pub Stretches : ℤ → Step → Type 0
Stretches w s = Skips w s ⊎ Repeats w s

pub not_behind : (w : ℤ) (s : Step) → IsBehind w s → Stretches w s → ⊥
not_behind w s h (inl skips) = let here = h.new in let there = skips.new in omega (arith, ints, here, there)
not_behind w s h (inr repeats) = let here = h.old in let there = repeats.old in omega (arith, ints, here, there)

pub not_ahead : (w : ℤ) (s : Step) → IsAhead w s → Stretches w s → ⊥
not_ahead w s h (inl skips) = let here = h.old in let there = skips.old in omega (arith, ints, here, there)
not_ahead w s h (inr repeats) = let here = h.new in let there = repeats.new in omega (arith, ints, here, there)

-- the transitions before the kth are behind w, and those from the kth on ahead of it
pub record LiesBetween (count : ℕ) (since offset : ℕ → ℤ) (w : ℤ) (k : ℕ) : Type 0 where
  pub within : k ≤ count
  pub passed : (n : ℕ) → n < k → IsBehind w (step_at since offset n)
  pub coming : (n : ℕ) → k ≤ n → n < count → IsAhead w (step_at since offset n)

-- the transitions before the kth are behind w, and those after it ahead of it
pub record LiesAround (count : ℕ) (since offset : ℕ → ℤ) (w : ℤ) (k : ℕ) : Type 0 where
  pub within : k < count
  pub passed : (n : ℕ) → n < k → IsBehind w (step_at since offset n)
  pub coming : (n : ℕ) → k < n → n < count → IsAhead w (step_at since offset n)

one_of : (k l : ℕ) → k ≤ l → l ≤ suc k → (l ≡ k) ⊎ (l ≡ suc k)
one_of k l least most = grind arith

-- ---- neighbours decide

-- what the next one is behind, this one is too; and the other way round
behind_before : (w : ℤ) (a b : Step) → IsWalled a b → IsBehind w b → IsBehind w a
behind_before w a b walls h = record { old = omega (arith, ints, walls.old_old, h.old); new = omega (arith, ints, walls.new_old, h.old) }

ahead_after : (w : ℤ) (a b : Step) → IsWalled a b → IsAhead w a → IsAhead w b
ahead_after w a b walls h = record { old = omega (arith, ints, walls.old_old, h.old); new = omega (arith, ints, walls.old_new, h.old) }

behind_skipped : (w : ℤ) (a b : Step) → IsWalled a b → Skips w b → IsBehind w a
behind_skipped w a b walls h = record { old = omega (arith, ints, walls.old_old, h.old); new = omega (arith, ints, walls.new_old, h.old) }

ahead_skipped : (w : ℤ) (a b : Step) → IsWalled a b → Skips w a → IsAhead w b
ahead_skipped w a b walls h = record { old = omega (arith, ints, walls.new_old, h.new); new = omega (arith, ints, walls.new_new, h.new) }

behind_repeated : (w : ℤ) (a b : Step) → IsWalled a b → Repeats w b → IsBehind w a
behind_repeated w a b walls h = record { old = omega (arith, ints, walls.old_new, h.new); new = omega (arith, ints, walls.new_new, h.new) }

ahead_repeated : (w : ℤ) (a b : Step) → IsWalled a b → Repeats w a → IsAhead w b
ahead_repeated w a b walls h = record { old = omega (arith, ints, walls.old_old, h.old); new = omega (arith, ints, walls.old_new, h.old) }

pub around_gap : {count : ℕ} {since offset : ℕ → ℤ} → IsChain count since offset → (w : ℤ) (k : ℕ) → k < count → Skips w (step_at since offset k)
    → LiesAround count since offset w k
around_gap chain w k lt h = record {
  within = lt;
  passed = λ n less. behind_skipped w _ _ (walled chain n k less lt) h;
  coming = λ n more within. ahead_skipped w _ _ (walled chain k n more within) h;
}

pub around_fold : {count : ℕ} {since offset : ℕ → ℤ} → IsChain count since offset → (w : ℤ) (k : ℕ) → k < count → Repeats w (step_at since offset k)
    → LiesAround count since offset w k
around_fold chain w k lt h = record {
  within = lt;
  passed = λ n less. behind_repeated w _ _ (walled chain n k less lt) h;
  coming = λ n more within. ahead_repeated w _ _ (walled chain k n more within) h;
}

-- it is enough to look at the two around it
pub lies_between : {count : ℕ} {since offset : ℕ → ℤ} → IsChain count since offset → (w : ℤ) (k : ℕ) → k ≤ count
    → ((j : ℕ) → suc j ≡ k → IsBehind w (step_at since offset j)) → (k < count → IsAhead w (step_at since offset k))
    → LiesBetween count since offset w k
lies_between {count = count} {since = since} {offset = offset} chain w k le last next = record { within = le; passed = passed k le last; coming = coming }
  where
    passed : (k : ℕ) → k ≤ count → ((j : ℕ) → suc j ≡ k → IsBehind w (step_at since offset j)) → (n : ℕ) → n < k → IsBehind w (step_at since offset n)
    passed zero le last n lt = absurd (omega arith)
    passed (suc j) le last n lt = elim (last_or_before n j lt) as (λ _. IsBehind w (step_at since offset n)) [
      | inl less ↦ behind_before w _ _ (walled chain n j less (omega arith)) (last j refl)
      | inr same ↦ rw same (last j refl)
    ]

    coming : (n : ℕ) → k ≤ n → n < count → IsAhead w (step_at since offset n)
    coming n from lt = elim (last_or_before k n (omega arith)) as (λ _. IsAhead w (step_at since offset n)) [
      | inl more ↦ ahead_after w _ _ (walled chain k n more lt) (next (omega arith))
      | inr same ↦ rw (← same) (next (omega arith))
    ]

-- ---- seconds

-- t is after k transitions, and shows w
pub record ShowsAfter (count : ℕ) (since offset : ℕ → ℤ) (w t : ℤ) (k : ℕ) : Type 0 where
  pub at : IsAt count since t k
  pub shows : (t +ℤ offset k) ≡ w

-- then the new wall of the last of them is not after w, and the old wall of the next is
from_last : {count : ℕ} {since offset : ℕ → ℤ} {w t : ℤ} (j k : ℕ) → ShowsAfter count since offset w t k → suc j ≡ k → new_wall (step_at since offset j) ≤ℤ w
from_last {since = since} {offset = offset} {w = w} {t = t} j k h same =
    let passed = h.at.passed j (omega arith) in
    let shows : (t +ℤ offset (suc j)) ≡ w = rw same h.shows in
    omega (arith, ints, passed, shows)

to_next : {count : ℕ} {since offset : ℕ → ℤ} {w t : ℤ} (k : ℕ) → ShowsAfter count since offset w t k → k < count → w <ℤ old_wall (step_at since offset k)
to_next k h lt = let ahead = h.at.ahead k (omega arith) lt in let shows = h.shows in omega (arith, ints, ahead, shows)

-- and these two make it
pub shown_after : {count : ℕ} {since offset : ℕ → ℤ} → IsChain count since offset → (w : ℤ) (k : ℕ) → k ≤ count
    → ((j : ℕ) → suc j ≡ k → new_wall (step_at since offset j) ≤ℤ w) → (k < count → w <ℤ old_wall (step_at since offset k))
    → ShowsAfter count since offset w (w -ℤ offset k) k
shown_after {count = count} {since = since} {offset = offset} chain w k le last next = record {
  at = is_at chain (w -ℤ offset k) k le from to;
  shows = omega (arith, ints);
}
  where
    from : (j : ℕ) → suc j ≡ k → since j ≤ℤ (w -ℤ offset k)
    from j same = let wall = last j same in rw (← same) (omega (arith, ints, wall))

    to : k < count → (w -ℤ offset k) <ℤ since k
    to lt = let wall = next lt in omega (arith, ints, wall)

-- so the place of a second that shows w is bounded by the transitions whose walls are known
at_least : {count : ℕ} {since offset : ℕ → ℤ} (w u : ℤ) (p l : ℕ) → p ≤ count → ((n : ℕ) → n < p → old_wall (step_at since offset n) ≤ℤ w)
    → ShowsAfter count since offset w u l → p ≤ l
at_least w u p l le behind shown = elim (cases_lt l p) as (λ _. p ≤ l) [
  | inl lt ↦ (let wall = behind l lt in let here = to_next l shown (omega arith) in absurd (omega (arith, ints, wall, here)))
  | inr from ↦ from
]

at_most : {count : ℕ} {since offset : ℕ → ℤ} (w u : ℤ) (q l : ℕ) → ((n : ℕ) → q ≤ n → n < count → w <ℤ new_wall (step_at since offset n))
    → ShowsAfter count since offset w u l → l ≤ q
at_most w u q zero ahead shown = omega arith
at_most w u q (suc j) ahead shown = elim (cases_lt j q) as (λ _. suc j ≤ q) [
  | inl lt ↦ omega arith
  | inr from ↦ (let within = shown.at.within in let wall = ahead j from (omega arith) in let here = from_last j (suc j) shown refl in absurd (omega (arith, ints, wall, here)))
]

-- ---- between two transitions: shown once

pub between_shown : {count : ℕ} {since offset : ℕ → ℤ} → IsChain count since offset → (w : ℤ) (k : ℕ) → LiesBetween count since offset w k
    → ShowsAfter count since offset w (w -ℤ offset k) k
between_shown chain w k h = shown_after chain w k h.within (λ j same. (h.passed j (omega arith)).new) (λ lt. (h.coming k (omega arith) lt).old)

pub between_only : {count : ℕ} {since offset : ℕ → ℤ} (w u : ℤ) (k l : ℕ) → LiesBetween count since offset w k → ShowsAfter count since offset w u l → l ≡ k
between_only w u k l h shown =
    let least = at_least w u k l h.within (λ n lt. (h.passed n lt).old) shown in
    let most = at_most w u k l (λ n from lt. (h.coming n from lt).new) shown in
    omega arith

-- ---- in a gap: never shown

pub gap_never : {count : ℕ} {since offset : ℕ → ℤ} (w u : ℤ) (k l : ℕ) → LiesAround count since offset w k → Skips w (step_at since offset k)
    → ShowsAfter count since offset w u l → ⊥
gap_never {count = count} {since = since} {offset = offset} w u k l h gap shown =
    let within = h.within in
    let least = at_least w u (suc k) l (omega arith) old shown in
    let most = at_most w u k l new shown in
    omega arith
  where
    old : (n : ℕ) → n < suc k → old_wall (step_at since offset n) ≤ℤ w
    old n lt = elim (last_or_before n k lt) as (λ _. old_wall (step_at since offset n) ≤ℤ w) [ inl less ↦ (h.passed n less).old | inr same ↦ rw same gap.old ]

    new : (n : ℕ) → k ≤ n → n < count → w <ℤ new_wall (step_at since offset n)
    new n from lt = elim (last_or_before k n (omega arith)) as (λ _. w <ℤ new_wall (step_at since offset n)) [ inl more ↦ (h.coming n more lt).new | inr same ↦ rw (← same) gap.new ]

-- ---- in a fold: shown twice

pub fold_earlier : {count : ℕ} {since offset : ℕ → ℤ} → IsChain count since offset → (w : ℤ) (k : ℕ) → LiesAround count since offset w k → Repeats w (step_at since offset k)
    → ShowsAfter count since offset w (w -ℤ offset k) k
fold_earlier chain w k h fold = let within = h.within in shown_after chain w k (omega arith) (λ j same. (h.passed j (omega arith)).new) (λ lt. fold.old)

pub fold_later : {count : ℕ} {since offset : ℕ → ℤ} → IsChain count since offset → (w : ℤ) (k : ℕ) → LiesAround count since offset w k → Repeats w (step_at since offset k)
    → ShowsAfter count since offset w (w -ℤ offset (suc k)) (suc k)
fold_later {since = since} {offset = offset} chain w k h fold = shown_after chain w (suc k) h.within last (λ lt. (h.coming (suc k) (omega arith) lt).old)
  where
    last : (j : ℕ) → suc j ≡ suc k → new_wall (step_at since offset j) ≤ℤ w
    last j same = let j_is : j ≡ k = omega arith in rw j_is fold.new

pub fold_only : {count : ℕ} {since offset : ℕ → ℤ} (w u : ℤ) (k l : ℕ) → LiesAround count since offset w k → ShowsAfter count since offset w u l → (l ≡ k) ⊎ (l ≡ suc k)
fold_only w u k l h shown =
    let within = h.within in
    let least = at_least w u k l (omega arith) (λ n lt. (h.passed n lt).old) shown in
    let most = at_most w u (suc k) l (λ n from lt. (h.coming n (omega arith) lt).new) shown in
    one_of k l least most

-- ---- and these are all

pub data WallPlace (count : ℕ) (since offset : ℕ → ℤ) (w : ℤ) : Type 0 where
  in_between : (k : ℕ) → LiesBetween count since offset w k → WallPlace count since offset w
  in_gap : (k : ℕ) → k < count → Skips w (step_at since offset k) → WallPlace count since offset w
  in_fold : (k : ℕ) → k < count → Repeats w (step_at since offset k) → WallPlace count since offset w

abbrev IsNotBehind : ℤ → Step → Type 0
IsNotBehind w s = IsAhead w s ⊎ (Skips w s ⊎ Repeats w s)

pub wall_place : {count : ℕ} {since offset : ℕ → ℤ} → IsChain count since offset → (w : ℤ) → WallPlace count since offset w
wall_place {count = count} {since = since} {offset = offset} chain w =
    by (stops (λ n. IsBehind w (step_at since offset n)) (λ n. IsNotBehind w (step_at since offset n)) (λ n. either (step_at since offset n) (side_of w (step_at since offset n))) count)
  where
    either : (s : Step) → Side w s → IsBehind w s ⊎ IsNotBehind w s
    either s (is_behind h) = inl h
    either s (is_ahead h) = inr (inl h)
    either s (does_skip h) = inr (inr (inl h))
    either s (does_repeat h) = inr (inr (inr h))

    at : (k : ℕ) → k ≤ count → ((n : ℕ) → n < k → IsBehind w (step_at since offset n)) → k < count → IsNotBehind w (step_at since offset k) → WallPlace count since offset w
    at k le passed lt (inl h) = in_between k (lies_between chain w k le (λ j same. passed j (omega arith)) (λ _. h))
    at k le passed lt (inr (inl h)) = in_gap k lt h
    at k le passed lt (inr (inr h)) = in_fold k lt h

    by : (k : ℕ) × Stops (λ n. IsBehind w (step_at since offset n)) (λ n. IsNotBehind w (step_at since offset n)) count k → WallPlace count since offset w
    by found =
        let within = found.1.within in
        elim (cases_lt found.0 count) as (λ _. WallPlace count since offset w) [
          | inl lt ↦ at found.0 within found.1.passed lt (found.1.stop lt)
          | inr end ↦ in_between found.0 (lies_between chain w found.0 within (λ j same. found.1.passed j (omega arith)) (λ lt. absurd (omega arith)))
        ]
