use Rattle.std.proofs.Common.{◌≡◌, ◌≤◌, length, vec_len}
use Rattle.std.specs.Prelude.{vec_capacity}
use Rattle.zoneinfo64.specs.Inside.RuleView.{rule_for}
use Rattle.zoneinfo64.specs.ZoneNames.{named_zones}
use Rattle.zoneinfo64.specs.Inside.ListSteps.{with_front}
use Rattle.zoneinfo64.specs.Inside.ZoneList.{zones_of}
use Rattle.zoneinfo64.proofs.Zones.{left}
use Rattle.zoneinfo64.proofs.bundle.named_zones.Given as goal

-- the zones so far, and then those that are left, are those of the three arrays
abbrev pub invariant-loop-at : goal.invariant-loop-at
invariant-loop-at l = record {
  whole : with_front (zones_of l.entries.items) (left (rule_for l.rules) l.zones l.names l.regions l.at) ≡ named_zones (rule_for l.rules) l.zones l.names l.regions;
  len : vec_len l.entries ≡ l.at;
  room : length l.zones ≤ vec_capacity l.entries;
}
