-- The offsets by which a wall second is shown, where `off` tells the offset at each second (docs/ZONES.md, "Zones of `zoned`").
use Rattle.std.specs.Prelude.{ℕ, zero, suc, List, [], ◌∷◌, Bool, if◌then◌else◌, ℤ, pos, negsuc, ◌+ℤ◌, ◌-ℤ◌}
use Rattle.std.specs.Ordering.{int_eq}
use Rattle.zoned.specs.declared.offset.MappedLocalTime.{MappedLocalTime}
use Rattle.zoned.specs.declared.offset.MappedLocalTime.TheVariants as Mapped

-- the nth offset of less than a day: the first is -86,399 seconds, and the last, the 172,798th, 86,399
abbrev pub offset_number : ℕ → ℤ
offset_number n = negsuc 86398 +ℤ pos n

-- whether w is shown by the nth of them, at w less that offset
abbrev pub is_shown_by : (ℤ → ℤ) → ℤ → ℕ → Bool
is_shown_by off w n = int_eq (off (w -ℤ offset_number n)) (offset_number n)

-- those of the first n by which w is shown, the greatest first: the seconds that show w by them rise
unfoldable pub shown_by : (ℤ → ℤ) → ℤ → ℕ → List ℤ
shown_by off w zero = []
shown_by off w (suc n) = if is_shown_by off w n then offset_number n ∷ shown_by off w n else shown_by off w n

-- none, the one, or the first two
abbrev pub mapped_list : List ℤ → MappedLocalTime ℤ
mapped_list [] = Mapped.None
mapped_list (a ∷ []) = Mapped.Single a
mapped_list (a ∷ b ∷ more) = Mapped.Ambiguous a b

-- the offsets of less than a day by which w is shown
unfoldable pub shown_offsets : (ℤ → ℤ) → ℤ → MappedLocalTime ℤ
shown_offsets off w = mapped_list (shown_by off w 172799)
