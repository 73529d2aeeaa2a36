-- The days, seconds and instants of `jiff`, and where it places a wall time (docs/ARCHITECTURE.md, "Another backend of phrases").
use Rattle.std.specs.Prelude.{◌≡◌, ℕ, ℤ, pos, negsuc, ◌+ℤ◌, ◌-ℤ◌, ◌*ℤ◌, Option, unsigned_abs}
use Rattle.std.specs.Int.{int_div_euclid, int_rem_euclid}
use Rattle.civil.specs.Shown.{Shows}
use Rattle.zoned.specs.Placing.{IsPlaced}
use Rattle.jiff.specs.Placed.{fixed_zone}
use Rattle.jiff_core.specs.DateTime.{civil_seconds}
use Rattle.jiff_core.specs.declared.civil.datetime.DateTime.{DateTime}
use Rattle.jiff_core.specs.declared.offset.Offset.{Offset}
use Rattle.jiff_tz.specs.Ambiguous.{compatible_offset}
use Rattle.jiff_tz.specs.Zone.{ambiguous_at, offset_at}
use Rattle.jiff_tz.specs.declared.timezone.TimeZone.{TimeZone}
use Rattle.interim.specs.Meaning.{Means}
use Rattle.interim.specs.Refusal.{Ends}
use Rattle.interim.specs.declared.types.DateSpec.{DateSpec}
use Rattle.interim.specs.declared.types.Dialect.{Dialect}
use Rattle.interim.specs.declared.types.TimeSpec.{TimeSpec}

-- from -9999-01-01 to 9999-12-31
abbrev pub jiff_days : Ends
jiff_days = record { first = negsuc 4371586; last = pos 2932896 }

-- the seconds of its instants, which have a date at every offset
abbrev pub jiff_seconds : Ends
jiff_seconds = record { first = negsuc 377705023200; last = pos 253402207200 }

-- the nanoseconds of a second with a fraction
abbrev pub instant : ℤ → ℕ → ℤ
instant s f = s *ℤ pos 1000000000 +ℤ pos f

-- the second in which an instant lies
unfoldable pub second_of : ℤ → ℤ
second_of n = int_div_euclid n (pos 1000000000)

-- and its nanoseconds of that second
unfoldable pub fraction_of : ℤ → ℕ
fraction_of n = unsigned_abs (int_rem_euclid n (pos 1000000000))

-- the zone shows the wall second at the instant, by the offset that `jiff` tells there
abbrev pub ShowsBy : TimeZone → ℤ → ℕ → ℤ → Type 0
ShowsBy zone s f w = (s +ℤ offset_at zone (instant s f)) ≡ w

-- the datetime shows this wall second and these nanoseconds
pub record IsWallTime (wall : DateTime) (w : ℤ) (f : ℕ) : Type 0 where
  pub second : civil_seconds wall ≡ w
  pub fraction : wall.time.subsec_nanosecond ≡ f

-- the second at which the zone shows the wall time, by the offset that `jiff` takes for its compatible reading
abbrev pub IsPlacedBy : TimeZone → ℤ → ℕ → ℤ → Type 0
IsPlacedBy zone w f s = (wall : DateTime) × IsWallTime wall w f × (s ≡ w -ℤ (compatible_offset (ambiguous_at zone wall)).seconds)

-- ---- a zone of one offset

-- it shows and places as any zone with that offset does
pub record KeepsAnOffset : Type 0 where
  pub shows : (offset : Offset) (s : ℤ) (f : ℕ) (w : ℤ) → ShowsBy (fixed_zone offset) s f w → Shows (λ t. offset.seconds) s w
  pub places : (offset : Offset) (w : ℤ) (f : ℕ) (s : ℤ) → IsPlacedBy (fixed_zone offset) w f s → IsPlaced (λ t. offset.seconds) w s

-- ---- any zone

-- it has one place for each wall time, so that parts mean one moment, or have no meaning, and never both
pub record OneMeaningOverJiff : Type 0 where
  pub placed : (zone : TimeZone) (w : ℤ) (f : ℕ) (s t : ℤ) → IsPlacedBy zone w f s → IsPlacedBy zone w f t → s ≡ t
  pub once : (zone : TimeZone) (days seconds : Ends) (base : ℤ × ℕ) (dialect : Dialect) (date : Option DateSpec) (clock : Option TimeSpec) (r r' : Option (ℤ × ℕ))
      → Means (ShowsBy zone) (IsPlacedBy zone) days seconds base dialect date clock r
      → Means (ShowsBy zone) (IsPlacedBy zone) days seconds base dialect date clock r' → r ≡ r'
