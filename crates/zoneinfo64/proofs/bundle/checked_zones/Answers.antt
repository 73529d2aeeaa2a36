use Rattle.std.proofs.Common.{sym, arith}
use Rattle.std.proofs.lemmas.List.{length-map}
use Rattle.zoneinfo64.specs.Inside.RuleView.{rule_for}
use Rattle.zoneinfo64.specs.Inside.ZoneList.{zones_of, named_of}
use Rattle.zoneinfo64.proofs.Bundles.{list_is_few}
use Rattle.zoneinfo64.proofs.bundle.checked_zones.Goals as goal

pub returns-then-all_resolved-clause-entries : goal.returns-then-all_resolved-clause-entries
returns-then-all_resolved-clause-entries c =
    let entries = c.in_ok-entries.entries.items in
    let sizes = list_is_few (rule_for c.args.rules.now) c.args.zones.now c.args.names.now c.args.regions.now (zones_of entries) (sym c.if-not-are_arrays.ensures) c.in_ok-entries.ensures in
    record {
      some = omega (arith, length-map entries named_of, sizes.0);
      few = omega (arith, length-map entries named_of, sizes.1);
      rising = rw (← c.deref.ensures.value) (sym c.if-rises.ensures);
      resolved = rw (← c.deref-then-rises.ensures.value) (sym c.if-all_resolved.ensures);
    }
