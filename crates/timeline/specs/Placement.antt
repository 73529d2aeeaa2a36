-- Gaps and folds, and where a wall second is placed (docs/ZONES.md, "Placement").
pub use Rattle.timeline.specs.ShownWalls.{seconds_at, Shows, IsNeverShown, IsFirstShown, IsShownOnce, IsShownTwice}
use Rattle.std.specs.Prelude.{◌≡◌, ◌⊎◌, ℕ, Some, ℤ, ◌+ℤ◌, ◌-ℤ◌, ◌<ℤ◌, ◌≤ℤ◌}
use Rattle.timeline.specs.declared.offset.Transition.{Transition}
use Rattle.timeline.specs.Zone.{PlainZone}
use Rattle.timeline.specs.Timeline.{entry_at, before_entry}

-- at the nth entry the clock is put forward over w
abbrev pub IsGapOf : PlainZone → ℤ → ℕ → Type 0
IsGapOf z w n =
    (e : Transition) × (entry_at z n ≡ Some e) × ((e.since +ℤ (before_entry z n).offset) ≤ℤ w) × (w <ℤ (e.since +ℤ e.offset))

-- at the nth entry the clock is put back over w
abbrev pub IsFoldOf : PlainZone → ℤ → ℕ → Type 0
IsFoldOf z w n =
    (e : Transition) × (entry_at z n ≡ Some e) × ((e.since +ℤ e.offset) ≤ℤ w) × (w <ℤ (e.since +ℤ (before_entry z n).offset))

-- w lies in the stretch of the nth entry: from the lower of its two walls on, and below the higher
abbrev pub IsInStretch : PlainZone → ℤ → ℕ → Type 0
IsInStretch z w n = IsGapOf z w n ⊎ IsFoldOf z w n

-- no entry is a gap of w
abbrev pub IsInNoGap : PlainZone → ℤ → Type 0
IsInNoGap z w = (n : ℕ) → IsGapOf z w n → ⊥

-- no second shows w, and the nth entry is its one gap
pub record IsSkippedAt (z : PlainZone) (w : ℤ) (n : ℕ) : Type 0 where
  pub never : IsNeverShown z w
  pub gap : IsGapOf z w n
  pub only : (m : ℕ) → IsGapOf z w m → m ≡ n

-- w is placed at s: the first second that shows it, or, in a gap, w less the offset before the gap
abbrev pub IsPlaced : PlainZone → ℤ → ℤ → Type 0
IsPlaced z w s =
    IsFirstShown z w s ⊎ ((n : ℕ) × IsSkippedAt z w n × (s ≡ w -ℤ (before_entry z n).offset))

-- the second t lies before the nth entry, and u is not before it
abbrev pub IsAcross : PlainZone → ℤ → ℤ → ℕ → Type 0
IsAcross z t u n = (e : Transition) × (entry_at z n ≡ Some e) × (t <ℤ e.since) × (e.since ≤ℤ u)

-- t and u are the two seconds that show w, and they lie on the two sides of the nth entry and of no other
pub record IsRepeatedAt (z : PlainZone) (w t u : ℤ) (n : ℕ) : Type 0 where
  pub twice : IsShownTwice z w t u
  pub across : IsAcross z t u n
  pub only : (m : ℕ) → IsAcross z t u m → m ≡ n

-- w is shown by one second and lies in no gap; or by two, on the two sides of an entry, and lies in no gap; or by
-- none, and lies in one gap
pub data Showing (z : PlainZone) (w : ℤ) : Type 0 where
  once : (t : ℤ) → IsShownOnce z w t → IsInNoGap z w → Showing z w
  twice : (t u : ℤ) (n : ℕ) → IsRepeatedAt z w t u n → IsInNoGap z w → Showing z w
  never : (n : ℕ) → IsSkippedAt z w n → Showing z w
