-- Instants of `jiff` as seconds with their nanoseconds.
use Rattle.std.proofs.Common.{◌≡◌, ℕ, ◌<◌, Some, None, ℤ, pos, ◌+ℤ◌, ◌-ℤ◌, ◌*ℤ◌, refl, sym, ap, ◌∙◌, arith}
use Rattle.jiff_core.proofs.SignedLemmas.{signed_arith, int_rem_euclid-parts}
use Rattle.jiff_core.specs.Date.{epoch_day}
use Rattle.jiff_core.specs.DateTime.{civil_nanos, civil_seconds}
use Rattle.jiff_core.specs.Time.{time_seconds}
use Rattle.jiff_core.specs.Timestamp.{IsTimestampNanos}
use Rattle.jiff_core.specs.declared.civil.date.Date.{Date}
use Rattle.jiff_core.specs.declared.civil.datetime.DateTime.{DateTime}
use Rattle.jiff_core.specs.declared.civil.time.Time.{Time}
use Rattle.jiff_core.specs.declared.offset.Offset.{Offset}
use Rattle.jiff_tz.specs.Ambiguous.{instant_of}
use Rattle.jiff_tz.specs.Zone.{offset_at}
use Rattle.jiff_tz.specs.Ambiguous.{compatible_offset}
use Rattle.jiff_tz.specs.Zone.{ambiguous_at}
use Rattle.jiff_tz.specs.declared.timezone.TimeZone.{TimeZone}
use Rattle.jiff_zoned.proofs.SameLemmas.{same_datetime}
use Rattle.jiff_zoned.specs.declared.zoned.Zoned.{Zoned}
use Rattle.interim.specs.Inside.JiffBounds.{LiesIn}
use Rattle.interim.specs.Jiff.{jiff_seconds, instant, second_of, fraction_of, IsPlacedBy, IsWallTime, ShowsBy}
use Rattle.interim.specs.Meaning.{IsWallAt, moment_at}
use Rattle.interim.proofs.Stretches.{is_within-of, is_within-not}

-- an instant is its second and the nanoseconds of it
pub instant_parts : (n : ℤ) → (instant (second_of n) (fraction_of n) ≡ n) × (fraction_of n < 1000000000)
unfolding second_of fraction_of
instant_parts n = (omega (arith, signed_arith, int_rem_euclid-parts), omega (arith, signed_arith, int_rem_euclid-parts))

-- and no other second and nanoseconds
pub instant_once : (n s : ℤ) (f : ℕ) → n ≡ instant s f → f < 1000000000 → (second_of n ≡ s) × (fraction_of n ≡ f)
instant_once n s f e h =
    let parts = instant_parts n in
    (omega (arith, signed_arith, parts.0, parts.1), omega (arith, signed_arith, parts.0, parts.1))

-- a moment of `jiff`, and one outside
pub found_instant : (n s : ℤ) (f : ℕ) → n ≡ instant s f → f < 1000000000 → IsTimestampNanos n → Some (second_of n, fraction_of n) ≡ moment_at jiff_seconds s f
found_instant n s f e h is =
    let once = instant_once n s f e h in
    rw (once.0, once.1, is_within-of jiff_seconds s (omega (arith, signed_arith, is.0)) (omega (arith, signed_arith, is.1))) refl

pub no_instant : (n s : ℤ) (f : ℕ) → n ≡ instant s f → f < 1000000000 → (IsTimestampNanos n → ⊥) → None ≡ moment_at jiff_seconds s f
no_instant n s f e h never =
    rw (is_within-not jiff_seconds s (λ low high. never (omega (arith, signed_arith, low), omega (arith, signed_arith, high)))) refl

-- no moment at a second that `jiff` does not have
pub no_second : (s : ℤ) (f : ℕ) → (LiesIn jiff_seconds s → ⊥) → None ≡ moment_at jiff_seconds s f
no_second s f never = rw (is_within-not jiff_seconds s (λ low high. never (low, high))) refl

-- a wall time in nanoseconds
pub civil_nanos-is : (wall : DateTime) → civil_nanos wall ≡ instant (civil_seconds wall) wall.time.subsec_nanosecond
unfolding civil_nanos civil_seconds
civil_nanos-is wall = omega (arith, signed_arith)

pub civil_seconds-is : (wall : DateTime) → civil_seconds wall ≡ pos 86400 *ℤ epoch_day wall.date +ℤ pos (time_seconds wall.time)
unfolding civil_seconds
civil_seconds-is wall = omega (arith, signed_arith)

-- the wall time of a time on a date
pub wall_time : (wall : DateTime) (date : Date) (time : Time) → wall.date ≡ date → wall.time ≡ time → IsWallTime wall (pos 86400 *ℤ epoch_day date +ℤ pos (time_seconds time)) time.subsec_nanosecond
wall_time wall date time e f = rw (← e, ← f) (record { second = civil_seconds-is wall; fraction = refl })

-- a wall time at an offset, as an instant
pub instant_of-is : (wall : DateTime) (offset : Offset) (w : ℤ) (f : ℕ) → IsWallTime wall w f → instant_of wall offset ≡ instant (w -ℤ offset.seconds) f
instant_of-is wall offset w f is = omega (arith, signed_arith, civil_nanos-is wall, is.second, is.fraction)

-- the moment of a zoned datetime, by what its zone shows
zoned_parts : (z : Zoned) → (second_of z.timestamp.nanosecond ≡ civil_seconds z.datetime -ℤ z.offset.seconds) × (fraction_of z.timestamp.nanosecond ≡ z.datetime.time.subsec_nanosecond)
zoned_parts z =
    instant_once z.timestamp.nanosecond (civil_seconds z.datetime -ℤ z.offset.seconds) z.datetime.time.subsec_nanosecond (omega (arith, signed_arith, z.shows, civil_nanos-is z.datetime)) z.datetime.time.subsec_in

pub zoned_shows : (z : Zoned) (date : Date) (time : Time) → date ≡ z.datetime.date → time ≡ z.datetime.time
    → IsWallAt (ShowsBy z.time_zone) (second_of z.timestamp.nanosecond, fraction_of z.timestamp.nanosecond) (record { day = epoch_day date; time = (time_seconds time, time.subsec_nanosecond) })
zoned_shows z date time e f =
    let parts = zoned_parts z in
    let back = ap (λ (n : ℤ). offset_at z.time_zone n) (instant_parts z.timestamp.nanosecond).0 in
    record {
      shown = omega (arith, signed_arith, civil_seconds-is z.datetime, ap epoch_day e, ap time_seconds f, parts.0, back, z.offset_is);
      in_day = omega (arith, time.hour_in, time.minute_in, time.second_in);
      nanos_kept = ap (λ (t : Time). t.subsec_nanosecond) f ∙ sym parts.1;
    }

-- a wall time has one place
pub placed_by_once : (zone : TimeZone) (w : ℤ) (f : ℕ) (s t : ℤ) → IsPlacedBy zone w f s → IsPlacedBy zone w f t → s ≡ t
placed_by_once zone w f s t a b =
    let same : a.0 ≡ b.0 = same_datetime a.0 b.0 (omega (arith, signed_arith, civil_nanos-is a.0, civil_nanos-is b.0, a.1.second, a.1.fraction, b.1.second, b.1.fraction)) in
    a.2 ∙ (ap (λ (wall : DateTime). w -ℤ (compatible_offset (ambiguous_at zone wall)).seconds) same ∙ sym b.2)
