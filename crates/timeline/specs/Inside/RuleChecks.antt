-- What the laws ask of a rule, of its years, and of the initial offset (docs/ZONES.md, "The checker"). Serves private
-- contracts alone.
use Rattle.std.specs.Prelude.{◌≡◌, ℕ, nat_lt, if◌then◌else◌, ℤ, pos, ◌+ℤ◌, ◌<ℤ◌, ◌≤ℤ◌}
use Rattle.timeline.specs.declared.offset.Offset.{Offset}
use Rattle.timeline.specs.declared.fault.ZoneFault.{ZoneFault}
use Rattle.timeline.specs.declared.fault.ZoneFault.TheVariants as fault
use Rattle.timeline.specs.declared.check.Walls.{Walls}
use Rattle.timeline.specs.Zone.{PlainRule, end_year}
use Rattle.timeline.specs.Rule.{first_entry, second_entry}
use Rattle.timeline.specs.Timeline.{offset_of}
use Rattle.timeline.specs.Neighbours.{step, IsNear, IsWalled}
use Rattle.timeline.specs.TableLaws.{IsSmall}
use Rattle.timeline.specs.Laws.{IsYearLawful}
use Rattle.timeline.specs.Inside.EntryWalls.{AreNear, AreWalled, LieIn}

-- the seconds of a year of this kind: those from 7 on are leap years
abbrev pub kind_seconds : ℕ → ℤ
kind_seconds k = if nat_lt k 7 then pos 31536000 else pos 31622400

-- what the laws ask of a year of a rule
abbrev pub YearKeeps : PlainRule → ℤ → ZoneFault → Type 0
YearKeeps r y fault.Near = IsNear (step (offset_of (second_entry r y)) (first_entry r y)) (step (offset_of (first_entry r y)) (second_entry r y))
YearKeeps r y fault.Walls = IsWalled (step (offset_of (second_entry r y)) (first_entry r y)) (step (offset_of (first_entry r y)) (second_entry r y))
YearKeeps r y fault.Year = IsYearLawful r y
YearKeeps r y f = Unit {0}

-- of all its years
abbrev pub YearsKeep : PlainRule → ZoneFault → Type 0
YearsKeep r f = (y : ℤ) → r.first_year ≤ℤ y → y <ℤ end_year → YearKeeps r y f

-- and besides, with what holds after the table
abbrev pub RuleKeeps : PlainRule → Offset → ZoneFault → Type 0
RuleKeeps r last fault.Size = IsSmall r.raw × IsSmall (r.raw +ℤ r.extra)
RuleKeeps r last fault.Before = last ≡ offset_of (second_entry r r.first_year)
RuleKeeps r last f = Unit {0}

-- what the laws ask of the initial offset
abbrev pub SizeKept : Offset → ZoneFault → Type 0
SizeKept initial fault.Size = IsSmall initial.offset
SizeKept initial f = Unit {0}

-- what the laws ask of the two transitions of a year
abbrev pub PairKeeps : Walls → Walls → ℤ → ℤ → ZoneFault → Type 0
PairKeeps a b low high fault.Near = AreNear a b
PairKeeps a b low high fault.Walls = AreWalled a b
PairKeeps a b low high fault.Year = LieIn low high a × LieIn low high b
PairKeeps a b low high f = Unit {0}
