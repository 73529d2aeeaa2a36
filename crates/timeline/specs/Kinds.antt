-- The places of a yearly rule's dates in years of a kind (docs/ZONES.md, "Kinds of year").
use Rattle.std.specs.Prelude.{ℕ, ℤ, ◌-ℤ◌}
use Rattle.civil.specs.Calendar.{year_start, example_year}
use Rattle.timeline.specs.Zone.{DateRule}
use Rattle.timeline.specs.RuleDays.{rule_date}

-- the place of a date in a year of this kind, counted in days from 1 January; all years of the kind have the same
unfoldable pub place_in_kind : DateRule → ℕ → ℤ
place_in_kind r k = rule_date r (example_year k) -ℤ year_start (example_year k)
