-- Worked examples of offsets that are cut, and of those by which a wall second is shown.
use Rattle.std.proofs.Common.{◌≡◌, true, false, [], ◌∷◌, if◌then◌else◌, refl, ℤ, pos, negsuc}
use Rattle.std.specs.Prelude.{int_lt}
use Rattle.zoned.specs.declared.offset.MappedLocalTime.TheVariants as Mapped
use Rattle.zoneinfo64.specs.OffsetView.{cut_to_day}
use Rattle.zoneinfo64.specs.ShownOffsets.{offset_number, is_shown_by, mapped_list}

-- the last second of a day is kept on both sides, and what is more is cut to it
kept_east : cut_to_day (pos 86399) ≡ pos 86399
kept_east = refl

cut_east : cut_to_day (pos 86400) ≡ pos 86399
cut_east = refl

kept_west : cut_to_day (negsuc 86398) ≡ negsuc 86398
kept_west = refl

cut_west : cut_to_day (negsuc 86399) ≡ negsuc 86398
cut_west = refl

-- the offsets of less than a day go from the one to the other
first_number : offset_number 0 ≡ negsuc 86398
first_number = refl

last_number : offset_number 172798 ≡ pos 86399
last_number = refl

-- an offset that falls from an hour to none at the second 0 shows 00:30 by both, the hour first; and one that grows by neither
abbrev falls : ℤ → ℤ
falls t = if int_lt t (pos 0) then pos 3600 else pos 0

abbrev grows : ℤ → ℤ
grows t = if int_lt t (pos 0) then pos 0 else pos 3600

fold_hour : is_shown_by falls (pos 1800) 89999 ≡ true
fold_hour = refl

fold_none : is_shown_by falls (pos 1800) 86399 ≡ true
fold_none = refl

gap_hour : is_shown_by grows (pos 1800) 89999 ≡ false
gap_hour = refl

gap_none : is_shown_by grows (pos 1800) 86399 ≡ false
gap_none = refl

two_listed : mapped_list (pos 3600 ∷ pos 0 ∷ []) ≡ Mapped.Ambiguous (pos 3600) (pos 0)
two_listed = refl
