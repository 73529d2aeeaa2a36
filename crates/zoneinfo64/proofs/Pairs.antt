-- Pairs of words, as a loop reads them.
use Rattle.std.proofs.Common.{◌≡◌, ℕ, ◌-◌, ◌≤◌, List, [], ◌∷◌, ◌++◌, length, take, drop, get_or, Option, Some, ℤ, ◌+ℤ◌, Bool, true, false, cond, refl, sym, ◌∙◌, arith}
use Rattle.std.proofs.lemmas.Bool.{and_parts, and_from}
use Rattle.std.proofs.lemmas.List.{take_all}
use Rattle.timeline.specs.Zone.{fits_i32}
use Rattle.timeline.specs.Table.{sums_fit}
use Rattle.zoneinfo64.specs.Inside.ListSteps.{with_front}
use Rattle.zoneinfo64.specs.RuleDates.{as_i32}
use Rattle.zoneinfo64.specs.ZoneLists.{pair_of, offset_pairs}
use Rattle.zoneinfo64.proofs.Fronts.{front_grows}

pair_on : (front : List (ℤ × ℤ)) (a b : ℕ) (p : ℤ × ℤ) (words : List ℕ) (total : Option (List (ℤ × ℤ))) → pair_of a b ≡ Some p
    → with_front front (offset_pairs (a ∷ b ∷ words)) ≡ total → with_front (front ++ p ∷ []) (offset_pairs words) ≡ total
pair_on front a b p words total found so_far =
    let once : with_front front (offset_pairs (a ∷ b ∷ words)) ≡ with_front (front ++ p ∷ []) (offset_pairs words) = rw found (front_grows front p (offset_pairs words)) in
    sym once ∙ so_far

-- one more pair was read
pub pair_read : (front now : List (ℤ × ℤ)) (words : List ℕ) (p : ℤ × ℤ) (total : Option (List (ℤ × ℤ))) → 2 ≤ length words
    → Some p ≡ pair_of (get_or words 0 0) (get_or words 1 0) → now ≡ front ++ p ∷ []
    → with_front front (offset_pairs words) ≡ total → with_front now (offset_pairs (take (length words - 2) (drop 2 words))) ≡ total
pair_read front now [] p total long found pushed so_far = absurd (omega arith)
pair_read front now (a ∷ []) p total long found pushed so_far = absurd (omega arith)
pair_read front now (a ∷ b ∷ words) p total long found pushed so_far =
    let rest : take (length (a ∷ b ∷ words) - 2) words ≡ words = take_all _ words (omega arith) in
    rw (pushed, rest) (pair_on front a b p words total (sym found) so_far)

-- a pair that is read has a sum that fits
pub pair_fits : (a b : ℕ) (p : ℤ × ℤ) → Some p ≡ pair_of a b → fits_i32 (p.0 +ℤ p.1) ≡ true
pair_fits a b p found = by (fits_i32 (as_i32 a +ℤ as_i32 b)) refl found
  where
    by : (fits : Bool) → fits_i32 (as_i32 a +ℤ as_i32 b) ≡ fits → Some p ≡ cond fits (Some (as_i32 a, as_i32 b)) Option.None → fits_i32 (p.0 +ℤ p.1) ≡ true
    by true e f = let same : p ≡ (as_i32 a, as_i32 b) = cc in rw same e
    by false e f = cc

pub sums_fit-push : (front : List (ℤ × ℤ)) (p : ℤ × ℤ) → sums_fit front ≡ true → fits_i32 (p.0 +ℤ p.1) ≡ true → sums_fit (front ++ p ∷ []) ≡ true
sums_fit-push [] p h fits = rw fits refl
sums_fit-push (q ∷ front) p h fits =
    let parts = and_parts (fits_i32 (q.0 +ℤ q.1)) (sums_fit front) h in
    and_from (fits_i32 (q.0 +ℤ q.1)) (sums_fit (front ++ p ∷ [])) parts.0 (sums_fit-push front p parts.1 fits)
