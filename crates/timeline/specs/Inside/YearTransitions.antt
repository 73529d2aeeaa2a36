-- What a year of a rule has of entries that count (docs/ZONES.md, "Transitions both ways"). Serves private contracts alone.
use Rattle.std.specs.Prelude.{◌≡◌, ℕ, ◌+◌, ◌*◌, Bool, ◌&&◌, if◌then◌else◌, length, Option, Some, None, ℤ, pos, ◌+ℤ◌, ◌≤ℤ◌}
use Rattle.std.specs.Ordering.{int_eq}
use Rattle.timeline.specs.declared.offset.Offset.{Offset}
use Rattle.timeline.specs.declared.offset.Transition.{Transition}
use Rattle.timeline.specs.declared.lookups.YearEntries.{YearEntries}
use Rattle.timeline.specs.declared.lookups.YearEntries.TheVariants as year
use Rattle.timeline.specs.Zone.{PlainZone, PlainRule, end_year}

-- the year y is the jth of the rule, or the one after the last
pub record IsYearOf (z : PlainZone) (y : ℤ) (r : PlainRule) (j : ℕ) : Type 0 where
  pub rule : z.rule ≡ Some r
  pub is : y ≡ r.first_year +ℤ pos j
  pub to : y ≤ℤ end_year

-- where a year begins among the entries
abbrev pub year_place : PlainZone → ℕ → ℕ
year_place z j = length z.table + 2 * j

-- whether a change is asked for and the two transitions of a year make none
abbrev pub is_idle : Bool → Offset → Transition → Bool
is_idle change before first = change && int_eq before.offset first.offset

-- the first, or the last, of a year's entries, where they count
abbrev pub first_of_year : Bool → YearEntries → Option Transition
first_of_year change year.Table = None
first_of_year change (year.Rule before first second) = if is_idle change before first then None else Some first
first_of_year change (year.Past last) = None

-- the second of a year's two transitions, where it counts by what stands before the first one
abbrev pub last_of_year : Bool → YearEntries → Option Transition
last_of_year change year.Table = None
last_of_year change (year.Rule before first second) = if is_idle change before first then None else Some second
last_of_year change (year.Past last) = None
