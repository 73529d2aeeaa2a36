-- The verdicts that are kept beside a list of zones. Serves private contracts alone.
use Rattle.std.specs.Prelude.{◌≡◌, ℕ, Option, Some, None, List, slice_get}
use Rattle.timeline.specs.Zone.{PlainZone}
use Rattle.timeline.specs.Laws.{IsLawful}
use Rattle.timeline.specs.Fault.{IsLeastBroken}
use Rattle.timeline.specs.declared.fault.ZoneFault.{ZoneFault}
use Rattle.zoneinfo64.specs.NamedZone.{NamedZone, zone_at}

-- the zone is lawful; or this is the least law that it breaks
abbrev pub IsVerdict : PlainZone → Option ZoneFault → Type 0
IsVerdict z None = IsLawful z
IsVerdict z (Some fault) = IsLeastBroken z fault

-- each zone of a list has its verdict, by place; at an alias's own place nothing is said
pub record AreVerdicts (zones : List NamedZone) (verdicts : List (Option ZoneFault)) : Type 0 where
  pub each : (n : ℕ) (z : PlainZone) → zone_at zones n ≡ Some z → (v : Option ZoneFault) × (slice_get verdicts n ≡ Some v) × IsVerdict z v
