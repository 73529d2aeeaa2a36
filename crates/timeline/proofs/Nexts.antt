-- The entries around a second of a lawful zone, and the first or the last of them that counts.
use Rattle.std.proofs.Common.{◌≡◌, ℕ, zero, suc, ◌<◌, ◌≤◌, Bool, true, false, ◌⊎◌, inl, inr, Option, Some, None, ℤ, ◌<ℤ◌, ◌≤ℤ◌, refl, arith}
use Rattle.std.proofs.lemmas.Int.{ints}
use Rattle.std.proofs.lemmas.Bool.{cases_lt}
use Rattle.timeline.specs.declared.offset.Transition.{Transition}
use Rattle.timeline.specs.Zone.{PlainZone}
use Rattle.timeline.specs.Timeline.{entry_at}
use Rattle.timeline.specs.Laws.{IsLawful}
use Rattle.timeline.specs.Transitions.{Counts, AnswersNext, IsUpTo, AnswersPrev}
use Rattle.timeline.specs.Inside.FoundEntries.{FirstFrom, LastBelow}
use Rattle.timeline.specs.Inside.EntryCuts.{IsCut}
use Rattle.timeline.proofs.Entries.{below_or_not}
use Rattle.timeline.proofs.Chain.{rises}
use Rattle.timeline.proofs.TimelineEntries.{entry_count, entry_within, entry_there}
use Rattle.timeline.proofs.TimelineRises.{since_is, lawful_chain}

-- ---- order

entries_in_order : (z : PlainZone) (m n : ℕ) (a b : Transition) → IsLawful z → entry_at z m ≡ Some a → entry_at z n ≡ Some b → m ≤ n → a.since ≤ℤ b.since
entries_in_order z m n a b lawful at_a at_b le =
    let up = rises (lawful_chain z lawful) m n le (entry_within z n b at_b) in
    let is_a = since_is z m a at_a in
    let is_b = since_is z n b at_b in
    omega (arith, ints, up, is_a, is_b)

pub earlier_up_to : (exact : Bool) (t s u : ℤ) → s ≤ℤ u → IsUpTo exact t u → IsUpTo exact t s
earlier_up_to true t s u le h = omega (arith, ints, le, h)
earlier_up_to false t s u le h = omega (arith, ints, le, h)

-- it is enough to look at the two entries around a number
pub is_cut : (z : PlainZone) (exact : Bool) (t : ℤ) (k : ℕ) → IsLawful z
    → ((j : ℕ) (e : Transition) → suc j ≡ k → entry_at z j ≡ Some e → IsUpTo exact t e.since)
    → ((e : Transition) → entry_at z k ≡ Some e → IsUpTo exact t e.since → ⊥)
    → k ≤ entry_count z → IsCut z exact t k
is_cut z exact t k lawful last next within = record { passed = passed k refl; ahead = ahead }
  where
    passed : (i : ℕ) → i ≡ k → (n : ℕ) (e : Transition) → entry_at z n ≡ Some e → n < k → IsUpTo exact t e.since
    passed zero is n e at lt = absurd (omega arith)
    passed (suc j) is n e at lt =
        let there = entry_there z j (omega arith) in
        earlier_up_to exact t _ _ (entries_in_order z n j e there.0 lawful at there.1 (omega arith)) (last j there.0 is there.1)

    ahead : (n : ℕ) (e : Transition) → entry_at z n ≡ Some e → k ≤ n → IsUpTo exact t e.since → ⊥
    ahead n e at le up =
        let in_it = entry_within z n e at in
        let there = entry_there z k (omega (arith, in_it, le)) in
        next there.0 there.1 (earlier_up_to exact t _ _ (entries_in_order z k n there.0 e lawful there.1 at le) up)

-- ---- the answers

not_up_to : (t s : ℤ) → (IsUpTo false t s → ⊥) → t <ℤ s
not_up_to t s late = by (below_or_not t s)
  where
    by : (t <ℤ s) ⊎ (s ≤ℤ t) → t <ℤ s
    by (inl lt) = lt
    by (inr le) = absurd (late le)

-- the first that counts of those that are after t is the next
pub answers_next : (z : PlainZone) (t : ℤ) (change : Bool) (k : ℕ) (r : Option Transition) → IsLawful z → IsCut z false t k → FirstFrom z change k r → AnswersNext z t change r
answers_next z t change k None lawful cut none = λ n f counts after. by n f counts after (cases_lt n k)
  where
    by : (n : ℕ) (f : Transition) → Counts z change n f → t <ℤ f.since → (n < k) ⊎ (k ≤ n) → ⊥
    by n f counts after (inl lt) = let up = cut.passed n f counts.entry lt in omega (arith, ints, up, after)
    by n f counts after (inr le) = none n f le counts
answers_next z t change k (Some e) lawful cut first = record {
  counts = (first.0, first.1.counts);
  after = not_up_to t e.since (cut.ahead first.0 e first.1.counts.entry first.1.low);
  earliest = λ n f counts after. by n f counts after (cases_lt n k);
}
  where
    by : (n : ℕ) (f : Transition) → Counts z change n f → t <ℤ f.since → (n < k) ⊎ (k ≤ n) → e.since ≤ℤ f.since
    by n f counts after (inl lt) = let up = cut.passed n f counts.entry lt in absurd (omega (arith, ints, up, after))
    by n f counts after (inr le) = entries_in_order z first.0 n e f lawful first.1.counts.entry counts.entry (first.1.first n f le counts)

-- and the last that counts of those that are not is the one before
pub answers_prev : (z : PlainZone) (t : ℤ) (exact change : Bool) (k : ℕ) (r : Option Transition) → IsLawful z → IsCut z exact t k → LastBelow z change k r → AnswersPrev z t exact change r
answers_prev z t exact change k None lawful cut none = λ n f counts up. by n f counts up (cases_lt n k)
  where
    by : (n : ℕ) (f : Transition) → Counts z change n f → IsUpTo exact t f.since → (n < k) ⊎ (k ≤ n) → ⊥
    by n f counts up (inl lt) = none n f lt counts
    by n f counts up (inr le) = cut.ahead n f counts.entry le up
answers_prev z t exact change k (Some e) lawful cut last = record {
  counts = (last.0, last.1.counts);
  up_to = cut.passed last.0 e last.1.counts.entry last.1.high;
  latest = λ n f counts up. by n f counts up (cases_lt n k);
}
  where
    by : (n : ℕ) (f : Transition) → Counts z change n f → IsUpTo exact t f.since → (n < k) ⊎ (k ≤ n) → f.since ≤ℤ e.since
    by n f counts up (inl lt) = entries_in_order z n last.0 f e lawful counts.entry last.1.counts.entry (last.1.last n f lt counts)
    by n f counts up (inr le) = absurd (cut.ahead n f counts.entry le up)
