-- What the entries of a zone keep, as laws (docs/ZONES.md, "Timeline").
use Rattle.std.specs.Prelude.{◌≡◌, ◌⊎◌, ℕ, ◌+◌, Some, ℤ, ◌<ℤ◌}
use Rattle.timeline.specs.declared.offset.Offset.{Offset}
use Rattle.timeline.specs.declared.offset.Transition.{Transition}
use Rattle.timeline.specs.Zone.{PlainZone}
use Rattle.timeline.specs.Timeline.{Holds, offset_at, offset_of, entry_at, before_entry}
use Rattle.timeline.specs.Placement.{IsPlaced}
use Rattle.timeline.specs.declared.fault.ZoneFault.{ZoneFault}
use Rattle.timeline.specs.Fault.{IsLeastBroken, KeepsLaw}
use Rattle.timeline.specs.Laws.{IsLawful}
use Rattle.timeline.specs.Neighbours.{IsNear, IsWalled, step}

-- what is in force at a second is what its last entry not after it says
abbrev pub LastEntryHolds : Type 0
LastEntryHolds = (z : PlainZone) (t : ℤ) → Holds z t (offset_at z t)

-- and what that last entry says is one offset
abbrev pub OneOffsetHolds : Type 0
OneOffsetHolds = (z : PlainZone) (t : ℤ) (o o' : Offset) → Holds z t o → Holds z t o' → o ≡ o'

-- no zone is lawful and breaks a least law, and it breaks one least law at most; a law of a number is that of the fault with it
pub record OneVerdict : Type 0 where
  pub not_both : (z : PlainZone) (f : ZoneFault) → IsLawful z → IsLeastBroken z f → ⊥
  pub one_least : (z : PlainZone) (f g : ZoneFault) → IsLeastBroken z f → IsLeastBroken z g → f ≡ g
  pub all_kept : (z : PlainZone) → IsLawful z → (k : ℕ) → KeepsLaw k z

-- a wall second has one place at most
abbrev pub PlacedOnce : Type 0
PlacedOnce = (z : PlainZone) (w s s' : ℤ) → IsPlaced z w s → IsPlaced z w s' → s ≡ s'

-- an entry and the next: their seconds rise, or the two are equal; and they keep apart as laws 4 and 5 ask of neighbours
pub record IsFollowedBy (before : Offset) (a b : Transition) : Type 0 where
  pub rises : (a.since <ℤ b.since) ⊎ (a ≡ b)
  pub near : IsNear (step before a) (step (offset_of a) b)
  pub walls : IsWalled (step before a) (step (offset_of a) b)

-- so it is with each entry of a lawful zone and the next
abbrev pub EntriesRise : Type 0
EntriesRise = (z : PlainZone) (n : ℕ) (a b : Transition) → IsLawful z → entry_at z n ≡ Some a → entry_at z (n + 1) ≡ Some b
    → IsFollowedBy (before_entry z n) a b
