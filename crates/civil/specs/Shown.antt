-- Which seconds show a wall second, where `off` tells the offset at each second (docs/ZONES.md, "Placement").
use Rattle.std.specs.Prelude.{◌≡◌, ◌⊎◌, ℤ, ◌+ℤ◌, ◌<ℤ◌, ◌≤ℤ◌}

-- a clock shows w at the second t
abbrev pub Shows : (ℤ → ℤ) → ℤ → ℤ → Type 0
Shows off t w = (t +ℤ off t) ≡ w

-- no second shows w
abbrev pub IsNeverShown : (ℤ → ℤ) → ℤ → Type 0
IsNeverShown off w = (t : ℤ) → Shows off t w → ⊥

-- s is the first second that shows w
pub record IsFirstShown (off : ℤ → ℤ) (w s : ℤ) : Type 0 where
  pub shows : Shows off s w
  pub first : (t : ℤ) → Shows off t w → s ≤ℤ t

-- t is the one second that shows w
pub record IsShownOnce (off : ℤ → ℤ) (w t : ℤ) : Type 0 where
  pub shows : Shows off t w
  pub only : (u : ℤ) → Shows off u w → u ≡ t

-- t and u are the two seconds that show w, in this order
pub record IsShownTwice (off : ℤ → ℤ) (w t u : ℤ) : Type 0 where
  pub earlier : Shows off t w
  pub later : Shows off u w
  pub order : t <ℤ u
  pub only : (v : ℤ) → Shows off v w → (v ≡ t) ⊎ (v ≡ u)
