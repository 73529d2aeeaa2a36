use Rattle.zoneinfo64.specs.Inside.RuleView.{rule_for}
use Rattle.zoneinfo64.proofs.ZoneReads.{zone_of_parts}
use Rattle.zoneinfo64.proofs.fields.zone_data.Goals as goal

pub returns : goal.returns
returns c = rw (zone_of_parts (rule_for c.args.rules.now) c.args.zone.now, ← c.zone_parts-parts.ensures) c.zone_from.ensures
