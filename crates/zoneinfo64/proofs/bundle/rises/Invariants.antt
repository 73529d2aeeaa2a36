use Rattle.std.proofs.Common.{◌≡◌, ◌-◌, drop}
use Rattle.zoneinfo64.specs.Bundle.{rises}
use Rattle.zoneinfo64.specs.Inside.ZoneList.{zones_of}
use Rattle.zoneinfo64.proofs.bundle.rises.Given as goal

-- the neighbours that are left decide
abbrev pub invariant-loop-at : goal.invariant-loop-at
invariant-loop-at l = rises (zones_of (drop (l.at - 1) l.entries)) ≡ rises (zones_of l.entries)
