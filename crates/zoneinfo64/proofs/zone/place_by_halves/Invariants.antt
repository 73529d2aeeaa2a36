use Rattle.std.proofs.Common.{◌≡◌, ℕ, ◌-◌, ◌<◌, ◌≤◌, length, Some}
use Rattle.std.specs.List.{slice_get}
use Rattle.std.specs.Ordering.{nat_cmp}
use Rattle.std.specs.declared.cmp.Ordering.TheVariants.{Less, Greater}
use Rattle.std.specs.Cmp.Lexicographic.{slice_cmp}
use Rattle.zoneinfo64.specs.NamedZone.{name_text}
use Rattle.zoneinfo64.specs.declared.zone.Named.{Named}
use Rattle.zoneinfo64.proofs.zone.place_by_halves.Given as goal

abbrev pub invariant-loop-low : goal.invariant-loop-low
invariant-loop-low l = record {
  within : l.high ≤ length l.entries;
  below : (k : ℕ) (e : Named) → slice_get l.entries k ≡ Some e → k < l.low → slice_cmp nat_cmp (name_text e.name) l.iana ≡ Less;
  above : (k : ℕ) (e : Named) → slice_get l.entries k ≡ Some e → l.high ≤ k → slice_cmp nat_cmp (name_text e.name) l.iana ≡ Greater;
}

abbrev pub decreases-loop-low : goal.decreases-loop-low
decreases-loop-low l = l.high - l.low
