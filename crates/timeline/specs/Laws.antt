-- The eight laws of a lawful zone (docs/ZONES.md, "Laws").
use Rattle.std.specs.Prelude.{◌≡◌, ℕ, length, slice_get, Some, IfSome, ℤ, pos, ◌+ℤ◌, ◌<ℤ◌, ◌≤ℤ◌}
use Rattle.civil.specs.Calendar.{year_second}
use Rattle.timeline.specs.declared.offset.Transition.{Transition}
use Rattle.timeline.specs.Zone.{PlainZone, PlainRule, end_year}
use Rattle.timeline.specs.Rule.{first_entry, second_entry}
use Rattle.timeline.specs.Timeline.{before_entry, offset_of}
use Rattle.timeline.specs.TableLaws.{KeepsParts, KeepsOrder, KeepsSize}
use Rattle.timeline.specs.Neighbours.{Step, step, old_wall, new_wall, KeepsNear, KeepsWalls}

-- a transition lies before a second, and its walls are not after it
pub record EndsBefore (limit : ℤ) (s : Step) : Type 0 where
  pub since : s.since <ℤ limit
  pub old : old_wall s ≤ℤ limit
  pub new : new_wall s ≤ℤ limit

-- 6, seam: the table ends before the rule's first year
abbrev pub KeepsSeam : PlainZone → Type 0
KeepsSeam z = IfSome z.rule (λ r. (n : ℕ) (e : Transition) → slice_get z.table n ≡ Some e
    → EndsBefore (year_second r.first_year) (step (before_entry z n) e))

-- 7, before: what holds after the table is what the rule's years begin with
abbrev pub KeepsBefore : PlainZone → Type 0
KeepsBefore z = IfSome z.rule (λ r. before_entry z (length z.table) ≡ offset_of (second_entry r r.first_year))

-- a transition lies in a year, and so do its walls, the year's end among them
pub record LiesIn (low high : ℤ) (s : Step) : Type 0 where
  pub from : low ≤ℤ s.since
  pub to : s.since <ℤ high
  pub old_from : low ≤ℤ old_wall s
  pub old_to : old_wall s ≤ℤ high
  pub new_from : low ≤ℤ new_wall s
  pub new_to : new_wall s ≤ℤ high

-- both transitions of a year of a rule lie in that year, by second and by wall second
pub record IsYearLawful (r : PlainRule) (y : ℤ) : Type 0 where
  pub first : LiesIn (year_second y) (year_second (y +ℤ pos 1)) (step (offset_of (second_entry r y)) (first_entry r y))
  pub second : LiesIn (year_second y) (year_second (y +ℤ pos 1)) (step (offset_of (first_entry r y)) (second_entry r y))

-- 8, year: both transitions of each year of the rule lie in that year
abbrev pub KeepsYear : PlainZone → Type 0
KeepsYear z = IfSome z.rule (λ r. (y : ℤ) → r.first_year ≤ℤ y → y <ℤ end_year → IsYearLawful r y)

-- a zone that keeps all eight
pub record IsLawful (z : PlainZone) : Type 0 where
  pub parts : KeepsParts z
  pub order : KeepsOrder z
  pub size : KeepsSize z
  pub near : KeepsNear z
  pub walls : KeepsWalls z
  pub seam : KeepsSeam z
  pub before : KeepsBefore z
  pub year : KeepsYear z
