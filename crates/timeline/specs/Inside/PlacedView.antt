-- The plain rule of a `PlacedDates`, and what is true of it.
use Rattle.std.specs.Prelude.{◌≡◌}
use Rattle.timeline.specs.Zone.{RawRule}
use Rattle.timeline.specs.Inside.KeptRules.{places_of}
use Rattle.timeline.specs.DateView.{plain_date, raw_of}
use Rattle.timeline.specs.declared.dates.PlacedDates.TheInside.{Inside}

-- the dates and the extra offset, in their numbers
abbrev pub raw_view : Inside → RawRule
raw_view a = raw_of a.dates

-- its places are those of its dates, which carry their ranges
pub record HasPlaces (a : Inside) : Type 0 where
  pub start : a.start ≡ places_of (plain_date a.dates.start)
  pub end : a.end ≡ places_of (plain_date a.dates.end)
