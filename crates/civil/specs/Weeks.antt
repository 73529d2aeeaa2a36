-- The weeks of ISO 8601 (docs/CALENDAR.md, "Days of the week, and weeks").
use Rattle.std.specs.Prelude.{ℕ, ◌*◌, ◌-◌, ℤ, pos, ◌+ℤ◌, ◌≤ℤ◌, ◌<ℤ◌}
use Rattle.civil.specs.Calendar.{year_start, thursday_of}
use Rattle.civil.specs.CivilDates.{HoldsDay}
use Rattle.civil.specs.declared.iso_week.IsoWeek.{IsoWeek}

-- a week belongs to the year of its Thursday, and week 1 holds the year's first Thursday
pub record IsWeekOf (day y : ℤ) (week : ℕ) : Type 0 where
  pub year : HoldsDay y (thursday_of day)
  pub from : (year_start y +ℤ pos (7 * (week - 1))) ≤ℤ thursday_of day
  pub to : thursday_of day <ℤ (year_start y +ℤ pos (7 * week))

-- the year that a week belongs to
abbrev pub week_year : IsoWeek → ℤ
week_year w = w.year

-- the week's number in that year, from 1 on
abbrev pub week_number : IsoWeek → ℕ
week_number w = w.week
