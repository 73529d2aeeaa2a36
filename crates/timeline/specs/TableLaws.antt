-- What the laws ask of a table's seconds, and of the size of offsets (docs/ZONES.md, "Laws").
use Rattle.std.specs.Prelude.{◌≡◌, ℕ, ◌+◌, ◌<◌, ◌≤◌, length, slice_get, Some, IfSome, ℤ, pos, negsuc, ◌+ℤ◌, ◌<ℤ◌}
use Rattle.timeline.specs.declared.offset.Transition.{Transition}
use Rattle.timeline.specs.Zone.{PlainZone}

-- 1, parts: the first part of the table lies before the seconds of 32 bits, and the third part after them
pub record KeepsParts (z : PlainZone) : Type 0 where
  pub early : (n : ℕ) (e : Transition) → slice_get z.table n ≡ Some e → n < z.early → e.since <ℤ negsuc 2147483647
  pub late : (n : ℕ) (e : Transition) → slice_get z.table n ≡ Some e → length z.table ≤ n + z.late → pos 2147483647 <ℤ e.since

-- 2, order: the seconds of the table rise
abbrev pub KeepsOrder : PlainZone → Type 0
KeepsOrder z = (n : ℕ) (a b : Transition) → slice_get z.table n ≡ Some a → slice_get z.table (n + 1) ≡ Some b → a.since <ℤ b.since

-- less than a day to either side
abbrev pub IsSmall : ℤ → Type 0
IsSmall offset = (negsuc 86399 <ℤ offset) × (offset <ℤ pos 86400)

-- 3, size: each offset is less than a day
pub record KeepsSize (z : PlainZone) : Type 0 where
  pub initial : IsSmall z.initial.offset
  pub table : (n : ℕ) (e : Transition) → slice_get z.table n ≡ Some e → IsSmall e.offset
  pub raw : IfSome z.rule (λ r. IsSmall r.raw × IsSmall (r.raw +ℤ r.extra))
