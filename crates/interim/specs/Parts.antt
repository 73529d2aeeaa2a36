-- Dates and clock times as phrases write them (docs/GRAMMAR.md, "Parts").
use Rattle.std.specs.Prelude.{ℕ, ◌+◌, ◌==◌, ℤ, pos, Some, None, nat_le, if◌then◌else◌}
use Rattle.interim.specs.declared.types.AbsDate.{AbsDate}
use Rattle.interim.specs.declared.types.TimeSpec.{TimeSpec}
use Rattle.interim.specs.declared.words.Half.{Half}
use Rattle.interim.specs.declared.words.Half.TheVariants.{Am, Pm}

-- a date of these numbers
abbrev pub date_of : ℕ → ℕ → ℕ → AbsDate
date_of year month day = record { year = pos year; month = month; day = day }

-- a short year lies between 1941 and 2040
abbrev pub full_year : ℕ → ℕ
full_year year = if nat_le year 40 then 2000 + year else (if nat_le year 99 then 1900 + year else year)

-- a clock time with no written offset
abbrev pub clock : ℕ → ℕ → ℕ → ℕ → TimeSpec
clock hour min sec microsec = record { hour = hour; min = min; sec = sec; microsec = microsec; offset = None }

-- a clock time with a written offset
abbrev pub with_offset : TimeSpec → ℤ → TimeSpec
with_offset time offset = record time { offset = Some offset }

-- the hour that am or pm makes of an hour: 12am is 0, 12pm is 12, else pm adds 12
abbrev pub shifted : Half → ℕ → ℕ
shifted Am hour = if hour == 12 then 0 else hour
shifted Pm hour = if hour == 12 then 12 else hour + 12

-- a clock time with the hour that am or pm makes of it
abbrev pub in_half : Half → TimeSpec → TimeSpec
in_half half time = record time { hour = shifted half time.hour }
