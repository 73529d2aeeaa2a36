-- The lists of numbers in the fields of a zone (docs/FORMATS.md, "Zone fields").
use Rattle.std.specs.Prelude.{ℕ, List, [], ◌∷◌, Option, Some, None, ℤ, pos, ◌+ℤ◌, ◌*ℤ◌, codes}
use Rattle.resb_tree.specs.Fields.{field_in}
use Rattle.resb_tree.specs.Contents.{bytes_in, integers_in}
use Rattle.resb_tree.specs.Options.{◌>>=◌, when}
use Rattle.resb_tree.specs.declared.resource.Resource.{Resource}
use Rattle.timeline.specs.Table.{pair_offset}
use Rattle.timeline.specs.Zone.{fits_i32}
use Rattle.timeline.specs.declared.offset.Offset.{Offset}
use Rattle.zoneinfo64.specs.RuleDates.{as_i32}

-- two words as signed numbers, where their sum fits
abbrev pub pair_of : ℕ → ℕ → Option (ℤ × ℤ)
pair_of a b = when (fits_i32 (as_i32 a +ℤ as_i32 b)) (as_i32 a, as_i32 b)

-- the pairs of words, each with a sum of 32 bits; an odd number of words has none
abbrev pub offset_pairs : List ℕ → Option (List (ℤ × ℤ))
offset_pairs [] = Some []
offset_pairs (a ∷ []) = None
offset_pairs (a ∷ b ∷ words) = do
  pair ← pair_of a b
  pairs ← offset_pairs words
  Some (pair ∷ pairs)

-- the pairs of offsets of a zone
unfoldable pub type_offsets : Resource → Option (List (ℤ × ℤ))
type_offsets zone = do
  types ← field_in (codes "typeOffsets") zone
  words ← integers_in types
  offset_pairs words

-- the first of a list
abbrev pub first_of : {A : Type 0} → List A → Option A
first_of [] = None
first_of (x ∷ xs) = Some x

-- the offset of the first pair
abbrev pub initial_of : List (ℤ × ℤ) → Option Offset
initial_of pairs = first_of pairs >>= λ pair. Some (pair_offset pair)

-- a list that may be missing, which is then empty; one of another kind gives nothing
abbrev pub list_or_empty : {A : Type 0} → (Resource → Option (List A)) → Option Resource → Option (List A)
list_or_empty kind None = Some []
list_or_empty kind (Some r) = kind r

-- the words of a field, none without the field
unfoldable pub integers_at : List ℕ → Resource → Option (List ℕ)
integers_at key zone = list_or_empty integers_in (field_in key zone)

-- the bytes of a field, none without the field
unfoldable pub bytes_at : List ℕ → Resource → Option (List ℕ)
bytes_at key zone = list_or_empty bytes_in (field_in key zone)

-- seconds of 64 bits, the high word first
abbrev pub wide_seconds : List ℕ → Option (List ℤ)
wide_seconds [] = Some []
wide_seconds (a ∷ []) = None
wide_seconds (a ∷ b ∷ words) =
    wide_seconds words >>= λ seconds. Some ((as_i32 a *ℤ pos 4294967296 +ℤ pos b) ∷ seconds)

-- the seconds of a field of two words each
unfoldable pub wide_at : List ℕ → Resource → Option (List ℤ)
wide_at key zone = do
  words ← integers_at key zone
  wide_seconds words
