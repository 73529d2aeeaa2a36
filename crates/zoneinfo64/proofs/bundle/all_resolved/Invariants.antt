use Rattle.std.proofs.Common.{◌≡◌, drop}
use Rattle.zoneinfo64.specs.Bundle.{all_resolved}
use Rattle.zoneinfo64.specs.Inside.ZoneList.{zones_of}
use Rattle.zoneinfo64.proofs.bundle.all_resolved.Given as goal

-- the entries that are left decide
abbrev pub invariant-loop-at : goal.invariant-loop-at
invariant-loop-at l = all_resolved (zones_of l.entries) (zones_of (drop l.at l.entries)) ≡ all_resolved (zones_of l.entries) (zones_of l.entries)
