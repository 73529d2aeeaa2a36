-- Verdicts by place: where one is found, and those of the first places.
use Rattle.std.proofs.Common.{◌≡◌, false, true, ℕ, ◌<◌, List, length, Option, Some, None, IsSome, refl}
use Rattle.std.specs.List.{slice_get}
use Rattle.std.proofs.lemmas.Option.{slice_get_within}
use Rattle.timeline.specs.Zone.{PlainZone}
use Rattle.zoneinfo64.specs.NamedZone.{NamedZone, zone_at}
use Rattle.zoneinfo64.specs.Inside.Verdicts.{IsVerdict, AreVerdicts}
use Rattle.timeline.specs.declared.fault.ZoneFault.{ZoneFault}

-- the verdict on a zone that stands at a place
pub record Found (verdicts : List (Option ZoneFault)) (n : ℕ) (zone : Option PlainZone) : Type 0 where
  pub z : PlainZone
  pub is : zone ≡ Some z
  pub v : Option ZoneFault
  pub at : slice_get verdicts n ≡ Some v
  pub told : IsVerdict z v

pub found_at : (zones : List NamedZone) (verdicts : List (Option ZoneFault)) (n : ℕ) (zone : Option PlainZone)
    → AreVerdicts zones verdicts → zone_at zones n ≡ zone → IsSome zone → Found verdicts n zone
found_at zones verdicts n None are e is = let never : false ≡ true = is in cc
found_at zones verdicts n (Some z) are e is =
    let f = are.each n z e in
    record { z = z; is = refl; v = f.0; at = f.1; told = f.2 }

pub found_within : (zones : List NamedZone) (verdicts : List (Option ZoneFault)) (n : ℕ) (zone : Option PlainZone)
    → AreVerdicts zones verdicts → zone_at zones n ≡ zone → IsSome zone → n < length verdicts
found_within zones verdicts n zone are e is =
    let f = found_at zones verdicts n zone are e is in
    slice_get_within verdicts n f.v f.at

-- the verdicts on the first places of a list
abbrev pub AreFirst : List NamedZone → List (Option ZoneFault) → ℕ → Type 0
AreFirst zones verdicts count = (n : ℕ) (z : PlainZone) → n < count → zone_at zones n ≡ Some z
    → (v : Option ZoneFault) × (slice_get verdicts n ≡ Some v) × IsVerdict z v
