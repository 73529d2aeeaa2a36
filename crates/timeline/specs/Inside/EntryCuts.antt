-- Where a second cuts the entries in two (docs/ZONES.md, "Transitions both ways"). Serves private contracts alone.
use Rattle.std.specs.Prelude.{◌≡◌, ℕ, ◌<◌, ◌≤◌, Bool, slice_get, Some, ℤ}
use Rattle.timeline.specs.declared.offset.Transition.{Transition}
use Rattle.timeline.specs.Zone.{PlainZone}
use Rattle.timeline.specs.Timeline.{entry_at}
use Rattle.timeline.specs.Transitions.{IsUpTo}

-- the entries below the number k lie before t, or not after it where t is not taken exactly, and the others do not
pub record IsCut (z : PlainZone) (exact : Bool) (t : ℤ) (k : ℕ) : Type 0 where
  pub passed : (n : ℕ) (e : Transition) → entry_at z n ≡ Some e → n < k → IsUpTo exact t e.since
  pub ahead : (n : ℕ) (e : Transition) → entry_at z n ≡ Some e → k ≤ n → IsUpTo exact t e.since → ⊥

-- the same of the table
pub record IsTableCut (z : PlainZone) (exact : Bool) (t : ℤ) (k : ℕ) : Type 0 where
  pub passed : (n : ℕ) (e : Transition) → slice_get z.table n ≡ Some e → n < k → IsUpTo exact t e.since
  pub ahead : (n : ℕ) (e : Transition) → slice_get z.table n ≡ Some e → k ≤ n → IsUpTo exact t e.since → ⊥
