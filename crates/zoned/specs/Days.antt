-- What contracts read of a day with an offset (docs/ZONES.md, "Zones of `zoned`").
use Rattle.std.specs.Prelude.{ℤ}
use Rattle.zoned.specs.declared.date.Date.{Date}

-- the day number
abbrev pub day_number : {Tz O X : Type 0} → Date Tz O X → ℤ
day_number d = d.date

-- the offset
abbrev pub date_offset : {Tz O X : Type 0} → Date Tz O X → O
date_offset d = d.offset
