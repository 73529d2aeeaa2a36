-- The years of the calendar (docs/CALENDAR.md, "Dates"). Serves private contracts alone.
use Rattle.std.specs.Prelude.{ℤ, ◌≤ℤ◌}
use Rattle.civil.specs.CivilDates.{min_year, max_year}

-- the calendar has this year
pub record IsYear (y : ℤ) : Type 0 where
  pub first : min_year ≤ℤ y
  pub last : y ≤ℤ max_year
