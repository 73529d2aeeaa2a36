-- Entries that lie days apart, as nearly all do, and offsets of less than a day (docs/ZONES.md, "The checker"). Serves private
-- contracts alone.
use Rattle.std.specs.Prelude.{◌≡◌, ℕ, slice_get, Option, Some, IfSome, ℤ, pos, negsuc, ◌+ℤ◌, ◌<ℤ◌, ◌≤ℤ◌}
use Rattle.civil.specs.Calendar.{year_second}
use Rattle.timeline.specs.declared.offset.Transition.{Transition}
use Rattle.timeline.specs.Zone.{PlainRule, PlainZone}
use Rattle.timeline.specs.Rule.{first_entry, second_entry}
use Rattle.timeline.specs.TableLaws.{IsSmall}

-- two days or more before another second
abbrev pub IsApart : ℤ → ℤ → Type 0
IsApart a b = (a +ℤ pos 172800) ≤ℤ b

-- two transitions of a year lie a day or more from its ends, and two days or more from each other
pub record LieApart (low first second high : ℤ) : Type 0 where
  pub begin : (low +ℤ pos 86400) ≤ℤ first
  pub between : IsApart first second
  pub end : (second +ℤ pos 86400) ≤ℤ high

-- so lie the two of each year of a rule
abbrev pub YearsLieApart : PlainRule → Type 0
YearsLieApart r = (y : ℤ) → LieApart (year_second y) (first_entry r y).since (second_entry r y).since (year_second (y +ℤ pos 1))

-- the initial offset and those of the table are less than a day
pub record AreSmall (z : PlainZone) : Type 0 where
  pub initial : IsSmall z.initial.offset
  pub table : (n : ℕ) (e : Transition) → slice_get z.table n ≡ Some e → IsSmall e.offset

-- the least second of 64 bits
abbrev pub least_64 : ℤ
least_64 = negsuc 9223372036854775807

-- two days before the second that comes after the last one of 64 bits
abbrev pub last_end : ℤ
last_end = pos 9223372036854603008

-- an entry whose second less two days is below this one lies two days or more before the second that
-- the table is to end before; and where an offset is a day or more, there is none
pub record IsEnd (z : PlainZone) (limit : Option ℤ) (end : ℤ) : Type 0 where
  pub wraps : end ≤ℤ last_end
  pub shown : (s : ℤ) → IsApart least_64 s → s <ℤ (end +ℤ pos 172800) → AreSmall z × IfSome limit (λ l. IsApart s l)
