-- What contracts read of a fixed offset and of a moment (docs/ZONES.md, "Zones of `zoned`").
use Rattle.std.specs.Prelude.{ℕ, ℤ, pos, ◌+ℤ◌}
use Rattle.civil.specs.Times.{wall_of, nanos_of}
use Rattle.civil.specs.Delta.{second_nanos}
use Rattle.zoned.specs.declared.fixed.FixedOffset.{FixedOffset}
use Rattle.zoned.specs.declared.datetime.DateTime.{DateTime}

-- the seconds east of UTC
abbrev pub seconds_east : FixedOffset → ℤ
seconds_east o = o.seconds

-- the second of a moment, counted from 1970-01-01 00:00:00 UTC
abbrev pub second_of : {Tz O X : Type 0} → DateTime Tz O X → ℤ
second_of d = wall_of d.datetime

-- its nanoseconds
abbrev pub fraction_of : {Tz O X : Type 0} → DateTime Tz O X → ℕ
fraction_of d = nanos_of d.datetime

-- its offset
abbrev pub offset_of : {Tz O X : Type 0} → DateTime Tz O X → O
offset_of d = d.offset

-- both in one number; so a leap second counts as the second after it
abbrev pub nanos_since_epoch : {Tz O X : Type 0} → DateTime Tz O X → ℤ
nanos_since_epoch d = second_nanos (second_of d) +ℤ pos (fraction_of d)
