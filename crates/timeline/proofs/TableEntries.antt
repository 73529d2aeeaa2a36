-- The entries of a table, from its seconds, its pairs of offsets and the numbers of these.
use Rattle.std.proofs.Common.{◌≡◌, ℕ, zero, suc, ◌<◌, List, [], ◌∷◌, length, get_or, Some, ℤ, pos, ◌+ℤ◌, true, refl, sym, ap, ◌∙◌, arith}
use Rattle.std.specs.Prelude.{slice_get, option_map}
use Rattle.std.proofs.lemmas.Bool.{and_parts}
use Rattle.std.proofs.lemmas.Option.{get_or_from_slice_get}
use Rattle.timeline.specs.declared.offset.Transition.{Transition}
use Rattle.timeline.specs.Zone.{fits_i32}
use Rattle.timeline.specs.Table.{sums_fit, pair_of_number, pair_offset, transition_to, table_from}
use Rattle.timeline.specs.Timeline.{offset_of}
use Rattle.timeline.proofs.TimelineEntries.{is_there}

pub length-table_from : (pairs : List (ℤ × ℤ)) (seconds : List ℤ) (numbers : List ℕ) → length numbers ≡ length seconds → length (table_from pairs seconds numbers) ≡ length seconds
length-table_from pairs [] numbers same = refl
length-table_from pairs (s ∷ seconds) [] same = absurd (omega (arith, same))
length-table_from pairs (s ∷ seconds) (k ∷ numbers) same = let rest = length-table_from pairs seconds numbers (omega (arith, same)) in omega (arith, rest)

-- the nth entry
pub table_from-at : (pairs : List (ℤ × ℤ)) (seconds : List ℤ) (numbers : List ℕ) (n : ℕ) (s : ℤ) → length numbers ≡ length seconds → slice_get seconds n ≡ Some s
    → slice_get (table_from pairs seconds numbers) n ≡ Some (transition_to (pair_of_number pairs (get_or numbers n 0)) s)
table_from-at pairs [] numbers n s same at = cc
table_from-at pairs (t ∷ seconds) [] n s same at = absurd (omega (arith, same))
table_from-at pairs (t ∷ seconds) (k ∷ numbers) zero s same at = let is : t ≡ s = cc in rw is refl
table_from-at pairs (t ∷ seconds) (k ∷ numbers) (suc n) s same at = table_from-at pairs seconds numbers n s (omega (arith, same)) at

pub entry_since : (pairs : List (ℤ × ℤ)) (seconds : List ℤ) (numbers : List ℕ) (n : ℕ) (s : ℤ) → length numbers ≡ length seconds → slice_get seconds n ≡ Some s
    → option_map (λ (e : Transition). e.since) (slice_get (table_from pairs seconds numbers) n) ≡ Some s
entry_since pairs seconds numbers n s same at = ap (option_map (λ (e : Transition). e.since)) (table_from-at pairs seconds numbers n s same at)

-- what it brings
pub entry_offset : (pairs : List (ℤ × ℤ)) (seconds : List ℤ) (numbers : List ℕ) (n : ℕ) → length numbers ≡ length seconds → n < length (table_from pairs seconds numbers)
    → option_map offset_of (slice_get (table_from pairs seconds numbers) n) ≡ Some (pair_offset (pair_of_number pairs (get_or numbers n 0)))
entry_offset pairs seconds numbers n same within =
    let s = is_there seconds n (omega (arith, length-table_from pairs seconds numbers same, within)) in
    ap (option_map offset_of) (table_from-at pairs seconds numbers n s.0 same s.1)

-- each pair has a sum that fits
pub sums_fit-at : (pairs : List (ℤ × ℤ)) (n : ℕ) (p : ℤ × ℤ) → sums_fit pairs ≡ true → slice_get pairs n ≡ Some p → fits_i32 (p.0 +ℤ p.1) ≡ true
sums_fit-at [] n p fit at = cc
sums_fit-at (q ∷ ps) zero p fit at =
    let same : q ≡ p = cc in
    rw (← same) (and_parts (fits_i32 (q.0 +ℤ q.1)) (sums_fit ps) fit).0
sums_fit-at (q ∷ ps) (suc n) p fit at = sums_fit-at ps n p (and_parts (fits_i32 (q.0 +ℤ q.1)) (sums_fit ps) fit).1 at

-- so has the pair that is read at a place, whatever is read past the end
pub pair_fits : (pairs : List (ℤ × ℤ)) (k : ℕ) (p d : ℤ × ℤ) → sums_fit pairs ≡ true → k < length pairs → p ≡ get_or pairs k d → fits_i32 (p.0 +ℤ p.1) ≡ true
pair_fits pairs k p d fit within is =
    let q = is_there pairs k within in
    let same : p ≡ q.0 = is ∙ get_or_from_slice_get pairs k q.0 d q.1 in
    rw same (sums_fit-at pairs k q.0 fit q.1)

pub pair_is : (pairs : List (ℤ × ℤ)) (k : ℕ) (p d : ℤ × ℤ) → k < length pairs → p ≡ get_or pairs k d → p ≡ pair_of_number pairs k
pair_is pairs k p d within is =
    let q = is_there pairs k within in
    is ∙ get_or_from_slice_get pairs k q.0 d q.1 ∙ sym (get_or_from_slice_get pairs k q.0 (pos 0, pos 0) q.1)
