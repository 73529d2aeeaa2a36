-- What the units keep, and what a text is (docs/WORDS.md, "Units").
use Rattle.std.specs.Prelude.{◌≡◌, ◌<◌, ◌≤◌, ◌⊎◌, Some, encode_utf8_all, codes}
use Prim.Native.String.{String}
use Rattle.tongues.specs.Text.{text}
use Rattle.tongues.specs.Units.{unit_size, next_bigger, next_smaller}
use Rattle.tongues.specs.declared.unit.TimeUnit.{TimeUnit}

-- a unit and its next bigger one are next to each other both ways, and no unit has a size between theirs
abbrev pub UnitsRise : Type 0
UnitsRise = (a b : TimeUnit) → next_bigger a ≡ Some b →
    (next_smaller b ≡ Some a) × (unit_size a < unit_size b) × ((c : TimeUnit) → (unit_size c ≤ unit_size a) ⊎ (unit_size b ≤ unit_size c))

-- the bytes of a text are the UTF-8 of its characters
abbrev pub TextsAreUtf8 : Type 0
TextsAreUtf8 = (s : String) → text s ≡ encode_utf8_all (codes s)
