use Rattle.std.proofs.Common.{◌≡◌, length}
use Rattle.zoneinfo64.proofs.CheckedPlaces.{AreFirst}
use Rattle.zoneinfo64.proofs.checked.CheckedZones.new.Given as goal

abbrev pub invariant-loop-place : goal.invariant-loop-place
invariant-loop-place l = record { long : length l.verdicts.items ≡ l.place; first : AreFirst l.fn.zones l.verdicts.items l.place }
