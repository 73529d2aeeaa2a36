use Rattle.std.proofs.Common.{◌≡◌, take}
use Rattle.zoneinfo64.specs.Inside.ZoneParts.{parts_in}
use Rattle.zoneinfo64.proofs.parts.zone_parts.Given as goal

-- the fields are those of the entries so far
abbrev pub invariant-loop-at : goal.invariant-loop-at
invariant-loop-at l = l.parts ≡ parts_in (take l.at l.entries)
