use Rattle.std.proofs.Common.{arith}
use Rattle.std.specs.Prelude.{Vec}
use Rattle.std.specs.declared.alloc.Global.{Global}
use Rattle.std.proofs.lemmas.Result.{err_from_is_err_and}
use Rattle.zoneinfo64.specs.declared.zone.Named.{Named}
use Rattle.zoneinfo64.specs.Inside.ZoneList.{zones_of}
use Rattle.zoneinfo64.proofs.Zones.{Turn, zone_read, one_longer, broken_list, list_whole}
use Rattle.zoneinfo64.proofs.bundle.named_zones.Goals as goal

pub returns-in_err-push_named : goal.returns-in_err-push_named
returns-in_err-push_named c =
    let p = err_from_is_err_and c.from_residual-in_err-push_named.result c.from_residual-in_err-push_named.ensures.1 in
    let turn : Turn c.args.zones.now c.args.names.now c.args.regions.now c.loop-at.at c.at-zone.result c.at-name.result c.at-region.result = record {
      zone_there = c.at-zone.ensures;
      name_there = c.at-name.ensures;
      region_there = c.at-region.ensures;
    } in
    rw (p.1, p.2) (broken_list {X = Vec Named Global} {Y = Unit {0}} (λ v. zones_of v.items) (λ u. zones_of c.push_named.new.entries.items) _ _ (zones_of c.loop-at.entries.items) _ _ _ _ _ _ _ _ turn c.in_err-push_named.ensures.zones c.loop-at.invariant.whole)

pub loop-at-preserved : goal.loop-at-preserved
loop-at-preserved c =
    let turn : Turn c.args.zones.now c.args.names.now c.args.regions.now c.loop-at.at c.at-zone.result c.at-name.result c.at-region.result = record {
      zone_there = c.at-zone.ensures;
      name_there = c.at-name.ensures;
      region_there = c.at-region.ensures;
    } in
    let longer = one_longer c.loop-at.entries.items c.push_named.new.entries.items _ c.in_ok-push_named.ensures.zones in
    record {
      whole = zone_read _ (zones_of c.loop-at.entries.items) (zones_of c.push_named.new.entries.items) _ _ _ _ _ _ _ _ turn c.in_ok-push_named.ensures.zones c.loop-at.invariant.whole;
      len = omega (arith, longer, c.loop-at.invariant.len);
      room = omega (arith, c.in_ok-push_named.ensures.room, c.loop-at.invariant.room);
    }

pub returns : goal.returns
returns c = list_whole _ c.loop-at.entries.items c.args.zones.now c.args.names.now c.args.regions.now c.loop-at.at _ (omega arith) c.requires.names c.requires.regions c.loop-at.invariant.whole
