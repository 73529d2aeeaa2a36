-- What names and zones keep, as laws (docs/ZONES.md, "Proved of the definitions").
use Rattle.std.specs.Prelude.{◌≡◌, ◌↔◌, ℤ, ℕ, ◌<◌, List, All, IsTrue, encode_utf8_all}
use Rattle.std.specs.Ordering.{nat_cmp}
use Rattle.std.specs.Cmp.Lexicographic.{slice_cmp}
use Rattle.std.specs.Str.{all_scalars}
use Rattle.std.specs.Char.Utf16.{utf16_lossy_chars}
use Rattle.zoned.specs.Placing.{IsPlaced}
use Rattle.timeline.specs.Zone.{PlainZone}
use Rattle.timeline.specs.Laws.{IsLawful}
use Rattle.timeline.specs.ShownWalls.{seconds_at}
use Rattle.timeline.specs.Placement as entries
use Rattle.zoneinfo64.specs.NamedZone.{name_text}

-- the bytes of texts in UTF-8 are in the order of their characters
abbrev pub TextKeepsOrder : Type 0
TextKeepsOrder = (xs ys : List ℕ) → IsTrue (all_scalars xs) → IsTrue (all_scalars ys)
    → slice_cmp nat_cmp (encode_utf8_all xs) (encode_utf8_all ys) ≡ slice_cmp nat_cmp xs ys

-- so names of 16-bit units, which are compared by these bytes, are in the order of the characters that they spell
abbrev pub NamesKeepOrder : Type 0
NamesKeepOrder = (xs ys : List ℕ) → All (λ u. u < 65536) xs → All (λ u. u < 65536) ys
    → slice_cmp nat_cmp (name_text xs) (name_text ys) ≡ slice_cmp nat_cmp (utf16_lossy_chars xs) (utf16_lossy_chars ys)

-- a lawful zone places a wall second by the entries of its timeline as any zone places it by the offsets at all seconds
abbrev pub ZonesPlaceAlike : Type 0
ZonesPlaceAlike = (z : PlainZone) (w s : ℤ) → IsLawful z → entries.IsPlaced z w s ↔ IsPlaced (seconds_at z) w s
