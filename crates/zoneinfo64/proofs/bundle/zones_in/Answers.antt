use Rattle.std.proofs.Common.{ℕ, List, codes}
use Rattle.std.specs.Prelude.{Vec}
use Rattle.std.specs.declared.alloc.Global.{Global}
use Rattle.std.proofs.lemmas.Result.{err_from_is_err_and}
use Rattle.resb_tree.specs.declared.resource.Resource.{Resource}
use Rattle.zoneinfo64.specs.declared.zone.Named.{Named}
use Rattle.zoneinfo64.specs.Inside.RuleView.{rule_for}
use Rattle.zoneinfo64.specs.Bundle.{array_in, table_in, zone_list}
use Rattle.zoneinfo64.specs.Inside.ZoneList.{zones_of}
use Rattle.zoneinfo64.proofs.Bundles.{root_with}
use Rattle.zoneinfo64.proofs.Roots.{broken, rules_broken, no_names, no_regions, no_table, no_rules}
use Rattle.zoneinfo64.proofs.bundle.zones_in.Goals as goal

pub returns-in_err-names-clause-zones : goal.returns-in_err-names-clause-zones
returns-in_err-names-clause-zones c =
    let p = err_from_is_err_and c.from_residual-in_err-names.result c.from_residual-in_err-names.ensures.1 in
    rw (p.1, p.2) (broken {X = List Resource} {Y = Vec Named Global} (λ xs. xs) (λ v. zones_of v.items) _ (array_in (codes "Names") c.args.root.now) _ (λ none. no_names c.args.root.now c.in_ok-zones.zones c.in_ok-zones.ensures none) c.in_err-names.ensures)

pub returns-in_err-regions-clause-zones : goal.returns-in_err-regions-clause-zones
returns-in_err-regions-clause-zones c =
    let p = err_from_is_err_and c.from_residual-in_err-regions.result c.from_residual-in_err-regions.ensures.1 in
    rw (p.1, p.2) (broken {X = List Resource} {Y = Vec Named Global} (λ xs. xs) (λ v. zones_of v.items) _ (array_in (codes "Regions") c.args.root.now) _ (λ none. no_regions c.args.root.now c.in_ok-zones.zones c.in_ok-names.names c.in_ok-zones.ensures c.in_ok-names.ensures none) c.in_err-regions.ensures)

pub returns-in_err-table-clause-zones : goal.returns-in_err-table-clause-zones
returns-in_err-table-clause-zones c =
    let p = err_from_is_err_and c.from_residual-in_err-table.result c.from_residual-in_err-table.ensures.1 in
    rw (p.1, p.2) (broken {X = List (List ℕ × Resource)} {Y = Vec Named Global} (λ es. es) (λ v. zones_of v.items) _ (table_in (codes "Rules") c.args.root.now) _ (λ none. no_table c.args.root.now c.in_ok-zones.zones c.in_ok-names.names c.in_ok-regions.regions c.in_ok-zones.ensures c.in_ok-names.ensures c.in_ok-regions.ensures none) c.in_err-table.ensures)

pub returns-in_err-rules-clause-zones : goal.returns-in_err-rules-clause-zones
returns-in_err-rules-clause-zones c =
    let p = err_from_is_err_and c.from_residual-in_err-rules.result c.from_residual-in_err-rules.ensures.1 in
    rw (p.1, p.2) (rules_broken {Y = Vec Named Global} (λ v. zones_of v.items) _ _ (zone_list c.args.root.now) (λ none. no_rules c.args.root.now c.in_ok-zones.zones c.in_ok-names.names c.in_ok-regions.regions c.in_ok-table.table c.in_ok-zones.ensures c.in_ok-names.ensures c.in_ok-regions.ensures c.in_ok-table.ensures none) c.in_err-rules.ensures)

pub returns-clause-zones : goal.returns-clause-zones
returns-clause-zones c =
    let whole = root_with (rule_for c.in_ok-rules.rules) c.args.root.now c.in_ok-zones.zones c.in_ok-names.names c.in_ok-regions.regions c.in_ok-table.table c.in_ok-rules.ensures.list c.in_ok-zones.ensures c.in_ok-names.ensures c.in_ok-regions.ensures c.in_ok-table.ensures c.in_ok-rules.ensures.whole c.in_ok-rules.ensures.each in
    rw whole c.checked_zones.ensures.zones
