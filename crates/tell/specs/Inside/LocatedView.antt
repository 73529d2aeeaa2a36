-- What contracts read of a located moment.
use Rattle.std.specs.Prelude.{ℕ, ℤ}
use Rattle.civil.specs.Times.{wall_of, nanos_of}
use Rattle.tell.specs.declared.located.Located.{Located}

-- the second, counted from 1970-01-01 00:00:00 UTC
abbrev pub second_in : {Tz X : Type 0} {t : _} {o : _} → Located Tz X t o → ℤ
second_in d = wall_of d.utc

-- its nanoseconds
abbrev pub nanos_in : {Tz X : Type 0} {t : _} {o : _} → Located Tz X t o → ℕ
nanos_in d = nanos_of d.utc

-- its zone
abbrev pub zone_in : {Tz X : Type 0} {t : _} {o : _} → Located Tz X t o → Tz
zone_in d = d.zone
