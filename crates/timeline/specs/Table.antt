-- A zone by its seconds, its pairs of offsets and the numbers that say which pair each second brings (docs/FORMATS.md,
-- "Zone fields").
use Rattle.std.specs.Prelude.{◌≡◌, ℕ, ◌<◌, Bool, true, ◌&&◌, IsTrue, List, [], ◌∷◌, length, All, slice_index_or, Option, ℤ, pos, ◌+ℤ◌, int_lt}
use Rattle.timeline.specs.declared.offset.Offset.{Offset}
use Rattle.timeline.specs.declared.offset.Transition.{Transition}
use Rattle.timeline.specs.Zone.{PlainRule, PlainZone, fits_i32}

-- the seconds of a table in one list, with the lengths of the first and the third of its parts
pub record PlainSeconds : Type 0 where
  pub list : List ℤ
  pub early : ℕ
  pub late : ℕ

-- the offset of a pair: standard offset plus extra, which applies where it is above 0
abbrev pub pair_offset : ℤ × ℤ → Offset
pair_offset p = record { offset = p.0 +ℤ p.1; rule_applies = int_lt (pos 0) p.1 }

-- the transition at a second to a pair
abbrev pub transition_to : ℤ × ℤ → ℤ → Transition
transition_to p second = record { since = second; offset = p.0 +ℤ p.1; rule_applies = int_lt (pos 0) p.1 }

-- each pair's sum is a number of 32 bits
abbrev pub sums_fit : List (ℤ × ℤ) → Bool
sums_fit [] = true
sums_fit (p ∷ ps) = fits_i32 (p.0 +ℤ p.1) && sums_fit ps

-- the pair of a number
abbrev pub pair_of_number : List (ℤ × ℤ) → ℕ → ℤ × ℤ
pair_of_number pairs n = slice_index_or pairs n (pos 0, pos 0)

-- the transitions at these seconds to the pairs of these numbers
abbrev pub table_from : List (ℤ × ℤ) → List ℤ → List ℕ → List Transition
table_from pairs (second ∷ seconds) (n ∷ numbers) = transition_to (pair_of_number pairs n) second ∷ table_from pairs seconds numbers
table_from pairs seconds numbers = []

-- there is a pair, each pair's sum fits, and each second has a number, which is that of a pair
pub record AreEntries (pairs : List (ℤ × ℤ)) (seconds : List ℤ) (numbers : List ℕ) : Type 0 where
  pub some : 0 < length pairs
  pub fit : IsTrue (sums_fit pairs)
  pub len : length numbers ≡ length seconds
  pub known : All (λ n. n < length pairs) numbers

-- the zone of these: the first pair's offset holds at first
abbrev pub zone_from : PlainSeconds → Option PlainRule → List (ℤ × ℤ) → List ℕ → List ℕ → PlainZone
zone_from seconds rule pairs numbers links = record {
  initial = pair_offset (pair_of_number pairs 0);
  table = table_from pairs seconds.list numbers;
  early = seconds.early;
  late = seconds.late;
  rule = rule;
  type_offsets = pairs;
  type_map = numbers;
  links = links;
}
