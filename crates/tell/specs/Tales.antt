-- How a moment is told in a reply (docs/ARCHITECTURE.md, "Answers").
use Rattle.std.specs.Prelude.{◌≡◌, ℕ, ◌/◌, Bool, List, int_lt, ℤ, pos, ◌+ℤ◌, ◌-ℤ◌, ◌*ℤ◌, unsigned_abs}
use Rattle.timeline.specs.Zone.{PlainZone}
use Rattle.timeline.specs.Timeline.{offset_at}
use Rattle.timeline.specs.declared.offset.Offset.{Offset}
use Rattle.tell.specs.Voices.{Voices, voice_for, IsToldBy}

-- what is told of a moment: its second and its microseconds, the zone's offset and flag there, whether it is after the base,
-- and the words of its distance
pub record Tale : Type 0 where
  pub seconds : ℤ
  pub micros : ℕ
  pub offset : Offset
  pub ahead : Bool
  pub text : List ℕ

-- how far a moment is after the base, in nanoseconds; below 0 where it is before it
abbrev pub lead : ℤ → ℤ → ℕ → ℤ
lead base second nanos = pos 1000000000 *ℤ (second -ℤ base) +ℤ pos nanos

-- this is told of the moment at a second and its nanoseconds
pub record IsTale (z : PlainZone) (voices : Voices) (base second : ℤ) (nanos : ℕ) (t : Tale) : Type 0 where
  pub seconds : t.seconds ≡ second
  pub micros : t.micros ≡ nanos / 1000
  pub offset : t.offset ≡ offset_at z second
  pub ahead : t.ahead ≡ int_lt (pos 0) (lead base second nanos)
  pub text : IsToldBy (voice_for voices t.ahead) (unsigned_abs (lead base second nanos)) t.text
