-- What contracts read of a clock time, and of a day with one (docs/CALENDAR.md, "Clock times").
use Rattle.std.specs.Prelude.{ℕ, ℤ}
use Rattle.civil.specs.declared.time.NaiveTime.{NaiveTime}
use Rattle.civil.specs.declared.datetime.NaiveDateTime.{NaiveDateTime}

-- the second of the day
abbrev pub second_of_day : NaiveTime → ℕ
second_of_day t = t.second

-- the nanoseconds after that second; in a leap second they pass 999,999,999
abbrev pub nanos_of_time : NaiveTime → ℕ
nanos_of_time t = t.nanos

-- the wall second
abbrev pub wall_of : NaiveDateTime → ℤ
wall_of t = t.second

-- the nanoseconds after the wall second
abbrev pub nanos_of : NaiveDateTime → ℕ
nanos_of t = t.nanos
