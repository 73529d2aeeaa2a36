-- What the look-ups of a zone answer (docs/ZONES.md, "Look-ups").
use Rattle.std.specs.Prelude.{◌≡◌, ℕ, ◌≤◌, Some, ℤ, pos, ◌+ℤ◌, ◌-ℤ◌, ◌<ℤ◌, ◌≤ℤ◌}
use Rattle.civil.specs.Calendar.{days_in_month}
use Rattle.civil.specs.Clock.{IsClock}
use Rattle.timeline.specs.declared.offset.Offset.{Offset}
use Rattle.timeline.specs.declared.offset.Transition.{Transition}
use Rattle.timeline.specs.declared.offset.PossibleOffset.{PossibleOffset}
use Rattle.timeline.specs.declared.offset.PossibleOffset.TheVariants as possible
use Rattle.timeline.specs.Zone.{PlainZone}
use Rattle.timeline.specs.Timeline.{entry_at, offset_at}
use Rattle.timeline.specs.ShownWalls.{IsNeverShown, IsShownOnce, IsShownTwice}

-- the second of an entry, with what holds just before it and from it on
pub record IsBetween (z : PlainZone) (before after : Offset) (transition : ℤ) : Type 0 where
  pub entry : (n : ℕ) × (e : Transition) × (entry_at z n ≡ Some e) × (e.since ≡ transition)
  pub before_it : before ≡ offset_at z (transition -ℤ pos 1)
  pub from_it : after ≡ offset_at z transition

-- the second t lies before the transition, and what is told of before holds there; u does not, and what is told of after does
pub record LieAround (z : PlainZone) (before after : Offset) (transition t u : ℤ) : Type 0 where
  pub before_is : before ≡ offset_at z t
  pub after_is : after ≡ offset_at z u
  pub earlier : t <ℤ transition
  pub later : transition ≤ℤ u

-- a wall second is shown once, twice on the two sides of an entry, or by none, in a gap at an entry
abbrev pub AnswersWall : PlainZone → ℤ → PossibleOffset → Type 0
AnswersWall z w (possible.Single o) = (t : ℤ) × IsShownOnce z w t × (o ≡ offset_at z t)
AnswersWall z w (possible.Ambiguous before after transition) =
    (t : ℤ) × (u : ℤ) × IsShownTwice z w t u × IsBetween z before after transition
    × ((transition +ℤ after.offset) ≤ℤ w) × (w <ℤ (transition +ℤ before.offset)) × LieAround z before after transition t u
AnswersWall z w (possible.None before after transition) =
    IsNeverShown z w × IsBetween z before after transition
    × ((transition +ℤ before.offset) ≤ℤ w) × (w <ℤ (transition +ℤ after.offset))

-- the offset that an answer places a wall second by: that at its one second, or that before the entry
abbrev pub placing : PossibleOffset → Offset
placing (possible.Single o) = o
placing (possible.Ambiguous before after transition) = before
placing (possible.None before after transition) = before

-- a month has this day, and a clock shows this time
pub record IsDateTime (y : ℤ) (month day h m s : ℕ) : Type 0 where
  pub month_from : 1 ≤ month
  pub month_to : month ≤ 12
  pub day_from : 1 ≤ day
  pub day_to : day ≤ days_in_month y month
  pub clock : IsClock h m s
