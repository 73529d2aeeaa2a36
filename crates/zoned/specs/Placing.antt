-- Gaps, and where a wall second is placed, where `off` tells the offset at each second (docs/ZONES.md, "Placement").
use Rattle.std.specs.Prelude.{◌≡◌, ◌⊎◌, ℤ, pos, ◌+ℤ◌, ◌-ℤ◌, ◌<ℤ◌, ◌≤ℤ◌}
use Rattle.civil.specs.Shown.{IsNeverShown, IsFirstShown}

-- the offset before the second t
abbrev pub before : (ℤ → ℤ) → ℤ → ℤ
before off t = off (t -ℤ pos 1)

-- at t the clock is put forward over w
pub record IsGap (off : ℤ → ℤ) (w t : ℤ) : Type 0 where
  pub from : (t +ℤ before off t) ≤ℤ w
  pub to : w <ℤ (t +ℤ off t)

-- no second shows w, and the clock is put forward over it at t alone
pub record IsSkippedAt (off : ℤ → ℤ) (w t : ℤ) : Type 0 where
  pub never : IsNeverShown off w
  pub gap : IsGap off w t
  pub only : (u : ℤ) → IsGap off w u → u ≡ t

-- w is placed at s: the first second that shows it, or, in a gap, w less the offset before the gap
abbrev pub IsPlaced : (ℤ → ℤ) → ℤ → ℤ → Type 0
IsPlaced off w s =
    IsFirstShown off w s ⊎ ((t : ℤ) × IsSkippedAt off w t × (s ≡ w -ℤ before off t))
