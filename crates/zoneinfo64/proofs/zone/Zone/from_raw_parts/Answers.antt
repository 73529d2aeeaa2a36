use Rattle.std.proofs.Common.{◌<◌, length, arith}
use Rattle.zoneinfo64.proofs.Names.{zone-within}
use Rattle.zoneinfo64.proofs.zone.Zone.from_raw_parts.Goals as goal

pub invariant_of-result : goal.invariant_of-result
invariant_of-result c =
    let entries = c.info.inside.entries.items in
    let lt : c.place_within-place.result < length entries = omega (arith, c.place_within-place.ensures, c.len.ensures, c.info.invariant.some) in
    record { in_place = zone-within entries _ _ c.info.invariant c.info.view_is lt }
