-- Where a zone of `jiff` whose offsets stand in a table, with no rule behind it, places a wall second
-- (docs/ARCHITECTURE.md, "Another backend of phrases").
use Rattle.std.specs.Prelude.{◌≡◌, ◌⊎◌, ℕ, ◌<◌, ℤ, ◌+ℤ◌, ◌-ℤ◌, ◌≤ℤ◌, ◌<ℤ◌, None, vec_len}
use Rattle.std.specs.Borrow.{Bor}
use Rattle.civil.specs.Shown.{IsFirstShown, IsNeverShown}
use Rattle.jiff_tz.specs.Tzif.{transition_at}
use Rattle.jiff_tz.specs.Zone.{offset_at}
use Rattle.jiff_tz.specs.declared.timezone.TimeZone.{TimeZone}
use Rattle.jiff_tz.specs.declared.timezone.TimeZone.TheVariants as zones
use Rattle.jiff_tz.specs.declared.tzif.Tzif.{Tzif}
use Rattle.jiff_tz.specs.declared.tzif.transition.Transition.{Transition}
use Rattle.interim.specs.Jiff.{IsPlacedBy, instant}

-- the offset that a zone tells at each second
abbrev pub offset_on : TimeZone → ℤ → ℤ
offset_on zone s = offset_at zone (instant s 0)

-- at the transition the clock is put forward over w
pub record IsPutForward (t : Transition) (w : ℤ) : Type 0 where
  pub from : (t.second +ℤ t.before.seconds) ≤ℤ w
  pub to : w <ℤ (t.second +ℤ t.after.offset.seconds)

-- no second shows w, and s is w less the offset before the kth transition, at which the clock is put forward over it
pub record IsSkippedBy (table : Bor Tzif) (w s : ℤ) (k : ℕ) : Type 0 where
  pub never : IsNeverShown (offset_on (zones.Tzif table)) w
  pub stands : k < vec_len table.now.transitions
  pub over : IsPutForward (transition_at table.now k) w
  pub placed : s ≡ w -ℤ (transition_at table.now k).before.seconds

-- s is the first second that shows w, or, in a gap, w less the offset before it
abbrev pub TablesPlace : Type 0
TablesPlace = (table : Bor Tzif) (w : ℤ) (f : ℕ) (s : ℤ) → table.now.posix_tz ≡ None → IsPlacedBy (zones.Tzif table) w f s
    → IsFirstShown (offset_on (zones.Tzif table)) w s ⊎ ((k : ℕ) × IsSkippedBy table w s k)
