use Rattle.std.proofs.Common.{sym, ap, ◌∙◌, rules}
use Rattle.std.specs.Option.{option_copied}
use Rattle.zoneinfo64.specs.Inside.RuleView.{rule_for}
use Rattle.zoneinfo64.proofs.UsedRules.{rule_found}
use Rattle.zoneinfo64.proofs.fields.used_rule.Goals as goal

pub returns-in-Some-from_dates : goal.returns-in-Some-from_dates
returns-in-Some-from_dates c =
    let found = sym c.in_ok-dates.ensures ∙ ap option_copied c.in-Some-2.is in
    let is = rule_found (rule_for c.args.rules.now) c.args.key.now c.args.raw.now c.args.year.now c.in-Some.text c.in-Some-signed.raw c.in-Some-signed-2.first_year c.in-Some-2.dates.now
    (sym c.in-Some.is ∙ c.text.ensures) (sym c.in-Some-signed.is ∙ c.signed.ensures) (sym c.in-Some-signed-2.is ∙ c.signed-2.ensures) found in
    rw is (search rules)
