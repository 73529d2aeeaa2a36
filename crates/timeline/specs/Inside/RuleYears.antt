-- The first year of a yearly rule, and what a year of it brings (docs/ZONES.md, "The two transitions"; docs/FORMATS.md, "Zone
-- fields"). Serves private contracts alone.
use Rattle.std.specs.Prelude.{◌≡◌, ℤ, ◌≤ℤ◌}
use Rattle.timeline.specs.declared.offset.Offset.{Offset}
use Rattle.timeline.specs.declared.offset.Transition.{Transition}
use Rattle.timeline.specs.Zone.{PlainRule}
use Rattle.timeline.specs.Rule.{first_entry, second_entry}
use Rattle.timeline.specs.Timeline.{offset_of}
use Rattle.timeline.specs.Ranges.{least_28, greatest_28}

-- a first year that a bundle can give to a rule
abbrev pub IsFirstYear : ℤ → Type 0
IsFirstYear year = (least_28 ≤ℤ year) × (year ≤ℤ greatest_28)

-- these are the offset before the first transition of a rule in a year, and its two transitions in their order
pub record TellsYear (r : PlainRule) (y : ℤ) (told : Offset × Transition × Transition) : Type 0 where
  pub before : told.0 ≡ offset_of (second_entry r y)
  pub first : told.1 ≡ first_entry r y
  pub second : told.2 ≡ second_entry r y
