-- What a zone answers for a wall second (docs/ZONES.md, "Zones of `zoned`").
use Rattle.std.specs.Prelude.{◌≡◌, ℤ}
use Rattle.civil.specs.Shown.{IsShownOnce, IsShownTwice}
use Rattle.zoned.specs.Placing.{before, IsSkippedAt}
use Rattle.zoned.specs.declared.offset.MappedLocalTime.{MappedLocalTime}
use Rattle.zoned.specs.declared.offset.MappedLocalTime.TheVariants as Mapped
use Rattle.zoned.specs.declared.offset.CivilOffset.{CivilOffset}
use Rattle.zoned.specs.declared.offset.CivilOffset.TheVariants as Civil

-- the answer counts the seconds that show w: one, two, or none and the one second over which the clock is put forward
abbrev pub IsCivil : (ℤ → ℤ) → ℤ → CivilOffset ℤ → Type 0
IsCivil off w (Civil.Single o) = (t : ℤ) × IsShownOnce off w t × (o ≡ off t)
IsCivil off w (Civil.Ambiguous b a) = (t : ℤ) × (u : ℤ) × IsShownTwice off w t u × (b ≡ off t) × (a ≡ off u)
IsCivil off w (Civil.Gap b a) = (t : ℤ) × IsSkippedAt off w t × (b ≡ before off t) × (a ≡ off t)

-- the same answer without the offsets of a gap
abbrev pub mapped_of : {A : Type 0} → CivilOffset A → MappedLocalTime A
mapped_of (Civil.Single o) = Mapped.Single o
mapped_of (Civil.Ambiguous b a) = Mapped.Ambiguous b a
mapped_of (Civil.Gap b a) = Mapped.None

-- the offset by which a wall second is placed
abbrev pub first_offset : {A : Type 0} → CivilOffset A → A
first_offset (Civil.Single o) = o
first_offset (Civil.Ambiguous b a) = b
first_offset (Civil.Gap b a) = b

-- an answer at other values, as at the seconds of its offsets
abbrev pub civil_map : {A B : Type 0} → (A → B) → CivilOffset A → CivilOffset B
civil_map f (Civil.Single o) = Civil.Single (f o)
civil_map f (Civil.Ambiguous b a) = Civil.Ambiguous (f b) (f a)
civil_map f (Civil.Gap b a) = Civil.Gap (f b) (f a)

-- the same of an answer that leaves out the offsets of a gap
abbrev pub mapped_map : {A B : Type 0} → (A → B) → MappedLocalTime A → MappedLocalTime B
mapped_map f Mapped.None = Mapped.None
mapped_map f (Mapped.Single o) = Mapped.Single (f o)
mapped_map f (Mapped.Ambiguous b a) = Mapped.Ambiguous (f b) (f a)

-- each value of an answer
abbrev pub AllCivil : {A : Type 0} → (A → Type 0) → CivilOffset A → Type 0
AllCivil P (Civil.Single o) = P o
AllCivil P (Civil.Ambiguous b a) = P b × P a
AllCivil P (Civil.Gap b a) = P b × P a

-- each value of an answer that leaves out the offsets of a gap
abbrev pub AllMapped : {A : Type 0} → (A → Type 0) → MappedLocalTime A → Type 0
AllMapped P Mapped.None = Unit {0}
AllMapped P (Mapped.Single o) = P o
AllMapped P (Mapped.Ambiguous b a) = P b × P a
