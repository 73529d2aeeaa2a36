-- Which moments an answer has (docs/ZONES.md, "Zones of `zoned`").
use Rattle.std.specs.Prelude.{◌≡◌, Bool, true, false, Option, Some, None, ℤ, ◌-ℤ◌}
use Rattle.civil.specs.Clock.{IsWallSecond}
use Rattle.zoned.specs.declared.offset.MappedLocalTime.{MappedLocalTime}
use Rattle.zoned.specs.declared.offset.MappedLocalTime.TheVariants as Mapped

-- the seconds that w is at these offsets; there are none where one leaves the calendar
abbrev pub AreMoments : ℤ → MappedLocalTime ℤ → MappedLocalTime ℤ → Type 0
AreMoments w Mapped.None seconds = seconds ≡ Mapped.None
AreMoments w (Mapped.Single o) Mapped.None = ¬ IsWallSecond (w -ℤ o)
AreMoments w (Mapped.Single o) (Mapped.Single s) = s ≡ w -ℤ o
AreMoments w (Mapped.Single o) (Mapped.Ambiguous s t) = ⊥
AreMoments w (Mapped.Ambiguous o p) Mapped.None = ¬ (IsWallSecond (w -ℤ o) × IsWallSecond (w -ℤ p))
AreMoments w (Mapped.Ambiguous o p) (Mapped.Single s) = ⊥
AreMoments w (Mapped.Ambiguous o p) (Mapped.Ambiguous s t) = (s ≡ w -ℤ o) × (t ≡ w -ℤ p)

-- the values of an answer
abbrev pub single_of : {A : Type 0} → MappedLocalTime A → Option A
single_of Mapped.None = None
single_of (Mapped.Single o) = Some o
single_of (Mapped.Ambiguous b a) = None

-- the one value, or the first of two; none in a gap
abbrev pub earliest_of : {A : Type 0} → MappedLocalTime A → Option A
earliest_of Mapped.None = None
earliest_of (Mapped.Single o) = Some o
earliest_of (Mapped.Ambiguous b a) = Some b

-- the one value, or the second of two; none in a gap
abbrev pub latest_of : {A : Type 0} → MappedLocalTime A → Option A
latest_of Mapped.None = None
latest_of (Mapped.Single o) = Some o
latest_of (Mapped.Ambiguous b a) = Some a

-- there is one value
abbrev pub is_single : {A : Type 0} → MappedLocalTime A → Bool
is_single Mapped.None = false
is_single (Mapped.Single o) = true
is_single (Mapped.Ambiguous b a) = false

-- the one second that w is at these offsets; there is none where they are none or two, or it leaves the calendar
abbrev pub IsOneMoment : ℤ → MappedLocalTime ℤ → Option ℤ → Type 0
IsOneMoment w (Mapped.Single o) (Some s) = s ≡ w -ℤ o
IsOneMoment w (Mapped.Single o) None = ¬ IsWallSecond (w -ℤ o)
IsOneMoment w Mapped.None r = r ≡ None
IsOneMoment w (Mapped.Ambiguous b a) r = r ≡ None

-- there is one
abbrev pub HasOneMoment : ℤ → MappedLocalTime ℤ → Type 0
HasOneMoment w (Mapped.Single o) = IsWallSecond (w -ℤ o)
HasOneMoment w Mapped.None = ⊥
HasOneMoment w (Mapped.Ambiguous b a) = ⊥
