-- What the setters of `Datelike` answer, each of which changes one part of a date (docs/CALENDAR.md, "Dates"). `number` tells
-- the day of a value. A value may take some days alone: `takes` tells which, where `settled` says that it is known.
use Rattle.std.specs.Prelude.{◌↔◌, ℕ, ℤ, Option, IsSome, IfSome}
use Rattle.civil.specs.Calendar.{day_of}
use Rattle.civil.specs.CivilDates.{IsDate, IsDateOf}
use Rattle.civil.specs.Ordinals.{IsOrdinal, IsOrdinalOf, ordinal_day}

-- what is answered lies on the old value's date with this year in place of its own
abbrev pub GivesYear : {A : Type 0} → (A → ℤ) → ℤ → A → Option A → Type 0
GivesYear number year old result =
    (y : ℤ) (m d : ℕ) → IsDateOf (number old) y m d → IfSome result (λ new. IsDateOf (number new) year m d)

-- the same with this month
abbrev pub GivesMonth : {A : Type 0} → (A → ℤ) → ℕ → A → Option A → Type 0
GivesMonth number month old result =
    (y : ℤ) (m d : ℕ) → IsDateOf (number old) y m d → IfSome result (λ new. IsDateOf (number new) y month d)

-- with this day of the month
abbrev pub GivesDay : {A : Type 0} → (A → ℤ) → ℕ → A → Option A → Type 0
GivesDay number day old result =
    (y : ℤ) (m d : ℕ) → IsDateOf (number old) y m d → IfSome result (λ new. IsDateOf (number new) y m day)

-- with this day of the year
abbrev pub GivesOrdinal : {A : Type 0} → (A → ℤ) → ℕ → A → Option A → Type 0
GivesOrdinal number ordinal old result =
    (y : ℤ) (n : ℕ) → IsOrdinalOf (number old) y n → IfSome result (λ new. IsOrdinalOf (number new) y ordinal)

-- there is an answer exactly where the calendar has the date with this year, and the old value takes its day
abbrev pub SomeIffYear : {A : Type 0} → (A → ℤ) → (A → Type 0) → (A → ℤ → Type 0) → ℤ → A → Option A → Type 0
SomeIffYear number settled takes year old result =
    settled old → (y : ℤ) (m d : ℕ) → IsDateOf (number old) y m d
    → IsSome result ↔ IsDate year m d × takes old (day_of year m d)

-- the same with this month
abbrev pub SomeIffMonth : {A : Type 0} → (A → ℤ) → (A → Type 0) → (A → ℤ → Type 0) → ℕ → A → Option A → Type 0
SomeIffMonth number settled takes month old result =
    settled old → (y : ℤ) (m d : ℕ) → IsDateOf (number old) y m d
    → IsSome result ↔ IsDate y month d × takes old (day_of y month d)

-- with this day of the month
abbrev pub SomeIffDay : {A : Type 0} → (A → ℤ) → (A → Type 0) → (A → ℤ → Type 0) → ℕ → A → Option A → Type 0
SomeIffDay number settled takes day old result =
    settled old → (y : ℤ) (m d : ℕ) → IsDateOf (number old) y m d
    → IsSome result ↔ IsDate y m day × takes old (day_of y m day)

-- with this day of the year
abbrev pub SomeIffOrdinal : {A : Type 0} → (A → ℤ) → (A → Type 0) → (A → ℤ → Type 0) → ℕ → A → Option A → Type 0
SomeIffOrdinal number settled takes ordinal old result =
    settled old → (y : ℤ) (n : ℕ) → IsOrdinalOf (number old) y n
    → IsSome result ↔ IsOrdinal y ordinal × takes old (ordinal_day y ordinal)
