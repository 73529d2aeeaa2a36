-- The day numbers of `jiff` beside those of `civil` (docs/ARCHITECTURE.md, "Another backend of phrases").
use Rattle.std.specs.Prelude.{◌≡◌, ℕ, ℤ, ◌≤ℤ◌}
use Rattle.civil.specs.Calendar.{day_of}
use Rattle.civil.specs.DateLaws.{IsMonthDay}
use Rattle.jiff_core.specs.Calendar.{IsCivilDate, days_from_civil}
use Rattle.interim.specs.Jiff.{jiff_days}

-- the days of `jiff` are those of `civil`, in the years that `jiff` has
pub record JiffDaysAreDays : Type 0 where
  -- a date of `jiff` has one day number, here and there
  pub same : (y : ℤ) (m d : ℕ) → IsCivilDate y m d → days_from_civil y m d ≡ day_of y m d
  -- and a day of a month, of any year, is such a date, where `jiff` has its day
  pub inside : (y : ℤ) (m d : ℕ) → IsMonthDay y m d → jiff_days.first ≤ℤ day_of y m d → day_of y m d ≤ℤ jiff_days.last → IsCivilDate y m d
