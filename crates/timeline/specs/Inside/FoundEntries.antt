-- The first and the last entry that counts, of those between two numbers (docs/ZONES.md, "Transitions both ways"). Serves
-- private contracts alone.
use Rattle.std.specs.Prelude.{ℕ, ◌<◌, ◌≤◌, Bool, Option, Some, None}
use Rattle.timeline.specs.declared.offset.Transition.{Transition}
use Rattle.timeline.specs.Zone.{PlainZone}
use Rattle.timeline.specs.Transitions.{Counts}

-- the nth entry is the first one that counts of those from the number `from` on and below `to`
pub record IsFirst (z : PlainZone) (change : Bool) (from to n : ℕ) (e : Transition) : Type 0 where
  pub counts : Counts z change n e
  pub low : from ≤ n
  pub high : n < to
  pub first : (m : ℕ) (f : Transition) → from ≤ m → m < to → Counts z change m f → n ≤ m

-- the first entry that counts of those between two numbers, if there is one
abbrev pub FirstIn : PlainZone → Bool → ℕ → ℕ → Option Transition → Type 0
FirstIn z change from to None = (m : ℕ) (f : Transition) → from ≤ m → m < to → Counts z change m f → ⊥
FirstIn z change from to (Some e) = (n : ℕ) × IsFirst z change from to n e

-- the nth entry is the first one that counts of all from the number `from` on
pub record IsFirstFrom (z : PlainZone) (change : Bool) (from n : ℕ) (e : Transition) : Type 0 where
  pub counts : Counts z change n e
  pub low : from ≤ n
  pub first : (m : ℕ) (f : Transition) → from ≤ m → Counts z change m f → n ≤ m

-- the first entry that counts from a number on, if there is one
abbrev pub FirstFrom : PlainZone → Bool → ℕ → Option Transition → Type 0
FirstFrom z change from None = (m : ℕ) (f : Transition) → from ≤ m → Counts z change m f → ⊥
FirstFrom z change from (Some e) = (n : ℕ) × IsFirstFrom z change from n e

-- the nth entry is the last one that counts of those below the number `to`
pub record IsLast (z : PlainZone) (change : Bool) (to n : ℕ) (e : Transition) : Type 0 where
  pub counts : Counts z change n e
  pub high : n < to
  pub last : (m : ℕ) (f : Transition) → m < to → Counts z change m f → m ≤ n

-- the last entry that counts below a number, if there is one
abbrev pub LastBelow : PlainZone → Bool → ℕ → Option Transition → Type 0
LastBelow z change to None = (m : ℕ) (f : Transition) → m < to → Counts z change m f → ⊥
LastBelow z change to (Some e) = (n : ℕ) × IsLast z change to n e
