-- Where the offset of a lawful zone changes, as laws (docs/ZONES.md, "Timeline").
use Rattle.std.specs.Prelude.{◌≡◌, ℕ, Some, ℤ, pos, ◌-ℤ◌}
use Rattle.timeline.specs.declared.offset.Offset.{Offset}
use Rattle.timeline.specs.declared.offset.Transition.{Transition}
use Rattle.timeline.specs.declared.offset.PossibleOffset.TheVariants as possible
use Rattle.timeline.specs.Zone.{PlainZone}
use Rattle.timeline.specs.Timeline.{offset_at, entry_at, before_entry}
use Rattle.timeline.specs.ShownWalls.{IsShownTwice}
use Rattle.timeline.specs.Lookups.{AnswersWall}
use Rattle.timeline.specs.Laws.{IsLawful}

-- the nth entry comes at the second t; the offset just before t is the one before the entry, and that at t is its own
pub record AreSides (z : PlainZone) (t : ℤ) (n : ℕ) (e : Transition) : Type 0 where
  pub entry : entry_at z n ≡ Some e
  pub since : e.since ≡ t
  pub before : (offset_at z (t -ℤ pos 1)).offset ≡ (before_entry z n).offset
  pub after : (offset_at z t).offset ≡ e.offset

-- the offset changes nowhere but at an entry, from what holds before it to its own
abbrev pub OffsetsChangeAtEntries : Type 0
OffsetsChangeAtEntries = (z : PlainZone) (t : ℤ) → IsLawful z → ((offset_at z (t -ℤ pos 1)).offset ≡ (offset_at z t).offset → ⊥)
    → (n : ℕ) × (e : Transition) × AreSides z t n e

-- and at each entry whose offset is another one than that before it
abbrev pub EntriesChangeOffsets : Type 0
EntriesChangeOffsets = (z : PlainZone) (n : ℕ) (e : Transition) → IsLawful z → entry_at z n ≡ Some e → ((before_entry z n).offset ≡ e.offset → ⊥)
    → AreSides z e.since n e

-- where an answer tells the two sides of an entry, these hold at the two seconds that show the wall second
abbrev pub SidesHoldAtTheTwo : Type 0
SidesHoldAtTheTwo = (z : PlainZone) (w : ℤ) (before after : Offset) (transition : ℤ) → IsLawful z → AnswersWall z w (possible.Ambiguous before after transition)
    → (t : ℤ) × (u : ℤ) × IsShownTwice z w t u × (before.offset ≡ (offset_at z t).offset) × (after.offset ≡ (offset_at z u).offset)
