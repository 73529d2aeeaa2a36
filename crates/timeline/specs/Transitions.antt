-- The entries before and after a second (docs/ZONES.md, "Transitions both ways").
use Rattle.std.specs.Prelude.{◌≡◌, ℕ, Bool, true, false, IsTrue, Option, Some, None, ℤ, ◌<ℤ◌, ◌≤ℤ◌}
use Rattle.timeline.specs.declared.offset.Transition.{Transition}
use Rattle.timeline.specs.Zone.{PlainZone}
use Rattle.timeline.specs.Timeline.{entry_at, before_entry}

-- the nth entry is e, and it counts: where a change is asked for, only if its offset is another one than that before it
pub record Counts (z : PlainZone) (change : Bool) (n : ℕ) (e : Transition) : Type 0 where
  pub entry : entry_at z n ≡ Some e
  pub changes : IsTrue change → (before_entry z n).offset ≡ e.offset → ⊥

-- e counts and is after t, and no other entry that does is earlier
pub record IsNext (z : PlainZone) (t : ℤ) (change : Bool) (e : Transition) : Type 0 where
  pub counts : (n : ℕ) × Counts z change n e
  pub after : t <ℤ e.since
  pub earliest : (n : ℕ) (f : Transition) → Counts z change n f → t <ℤ f.since → e.since ≤ℤ f.since

-- the earliest entry after t that counts; or none that counts is after t
abbrev pub AnswersNext : PlainZone → ℤ → Bool → Option Transition → Type 0
AnswersNext z t change None = (n : ℕ) (f : Transition) → Counts z change n f → t <ℤ f.since → ⊥
AnswersNext z t change (Some e) = IsNext z t change e

-- a second lies before t, where t is taken exactly; else it is not after t
abbrev pub IsUpTo : Bool → ℤ → ℤ → Type 0
IsUpTo true t since = since <ℤ t
IsUpTo false t since = since ≤ℤ t

-- e counts and lies before t, and no other entry that does is later
pub record IsPrev (z : PlainZone) (t : ℤ) (exact change : Bool) (e : Transition) : Type 0 where
  pub counts : (n : ℕ) × Counts z change n e
  pub up_to : IsUpTo exact t e.since
  pub latest : (n : ℕ) (f : Transition) → Counts z change n f → IsUpTo exact t f.since → f.since ≤ℤ e.since

-- the latest entry before t, or not after it, that counts; or there is none that counts
abbrev pub AnswersPrev : PlainZone → ℤ → Bool → Bool → Option Transition → Type 0
AnswersPrev z t exact change None = (n : ℕ) (f : Transition) → Counts z change n f → IsUpTo exact t f.since → ⊥
AnswersPrev z t exact change (Some e) = IsPrev z t exact change e
