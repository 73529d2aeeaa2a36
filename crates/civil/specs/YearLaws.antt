-- What the years of each kind keep (docs/CALENDAR.md, "Years and months").
use Rattle.std.specs.Prelude.{◌≡◌, ◌<◌, ℕ}
use Rattle.civil.specs.Calendar.{year_kind, example_year}

-- the example of each of the 14 kinds is a year of that kind
abbrev pub ExampleYears : Type 0
ExampleYears = (k : ℕ) → k < 14 → year_kind (example_year k) ≡ k
