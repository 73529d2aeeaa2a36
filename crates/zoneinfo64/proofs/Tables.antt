-- The table of a zone as it is read: its seconds, and the numbers of its pairs.
use Rattle.std.proofs.Common.{◌≡◌, ℕ, suc, ◌<◌, ◌⊎◌, inl, inr, List, [], ◌∷◌, length, Option, Some, None, ℤ, pos, refl, arith}
use Rattle.std.specs.List.{slice_get}
use Rattle.std.proofs.lemmas.List.Elements.{All-nil, All-cons}
use Rattle.std.proofs.lemmas.Option.{slice_get-get_or, slice_get_within}
use Rattle.timeline.specs.Table.{table_from}
use Rattle.zoneinfo64.specs.Inside.ListSteps.{AreKnown}
use Rattle.zoneinfo64.specs.ZoneFields.{table_of}

-- where each second has the number of a pair there is a table
pub table_given : (pairs : List (ℤ × ℤ)) (seconds : List ℤ) (numbers : List ℕ) → AreKnown pairs seconds numbers → table_of pairs seconds numbers ≡ Some (table_from pairs seconds numbers)
table_given pairs [] [] known = refl
table_given pairs [] (n ∷ numbers) known = absurd (omega (arith, known.0))
table_given pairs (s ∷ seconds) [] known = absurd (omega (arith, known.0))
table_given pairs (s ∷ seconds) (n ∷ numbers) known =
    let pair = slice_get-get_or pairs n (pos 0, pos 0) (known.1 0 0 (omega arith)) in
    let rest = table_given pairs seconds numbers (omega (arith, known.0), λ k d lt. known.1 (suc k) d (omega (arith, lt))) in
    rw (pair, rest) refl

-- and only there
pub table_known : (pairs : List (ℤ × ℤ)) (seconds : List ℤ) (numbers : List ℕ) → (table_of pairs seconds numbers ≡ None) ⊎ AreKnown pairs seconds numbers
table_known pairs [] [] = inr (refl, All-nil (λ n. n < length pairs))
table_known pairs [] (n ∷ numbers) = inl refl
table_known pairs (s ∷ seconds) [] = inl refl
table_known pairs (s ∷ seconds) (n ∷ numbers) = by (slice_get pairs n) refl (table_known pairs seconds numbers)
  where
    by : (o : Option (ℤ × ℤ)) → slice_get pairs n ≡ o → (table_of pairs seconds numbers ≡ None) ⊎ AreKnown pairs seconds numbers
        → (table_of pairs (s ∷ seconds) (n ∷ numbers) ≡ None) ⊎ AreKnown pairs (s ∷ seconds) (n ∷ numbers)
    by None e rest = inl (rw e refl)
    by (Some p) e (inl none) = inl (rw (e, none) refl)
    by (Some p) e (inr known) = inr (omega (arith, known.0), All-cons (λ k. k < length pairs) n numbers (slice_get_within pairs n p e) known.1)

pub table_refused : (pairs : List (ℤ × ℤ)) (seconds : List ℤ) (numbers : List ℕ) → (AreKnown pairs seconds numbers → ⊥) → table_of pairs seconds numbers ≡ None
table_refused pairs seconds numbers apart = elim (table_known pairs seconds numbers) as (λ _. table_of pairs seconds numbers ≡ None) [
  | inl none ↦ none
  | inr known ↦ absurd (apart known)
]
