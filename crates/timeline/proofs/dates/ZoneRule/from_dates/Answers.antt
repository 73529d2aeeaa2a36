use Rattle.std.proofs.Common.{to_z-of_z, FitsSigned, w32, rules, refl, sym, ap, ◌∙◌}
use Rattle.timeline.specs.declared.rule.KindDate.{KindDate}
use Rattle.timeline.specs.Inside.KeptRules.{KeptRule}
use Rattle.timeline.specs.Inside.ZoneRuleView.{rule_view}
use Rattle.timeline.specs.DateView.{plain_date}
use Rattle.timeline.proofs.KeptRules.{kept_from, kind_date_from, mode_back}
use Rattle.timeline.proofs.dates.ZoneRule.from_dates.Goals as goal

pub invariant_of-result : goal.invariant_of-result
invariant_of-result c =
    let dates = c.placed.inside.dates in
    let extra : FitsSigned w32 dates.extra = search rules in
    let start = kind_date_from (plain_date dates.start) c.new-start.result (ap (λ (d : KindDate). d.places) c.new-start.ensures ∙ c.placed.invariant.start) (ap (λ (d : KindDate). d.seconds) c.new-start.ensures) (ap (λ (d : KindDate). d.mode) c.new-start.ensures ∙ sym (mode_back dates.start.mode)) in
    let end = kind_date_from (plain_date dates.end) c.new-end.result (ap (λ (d : KindDate). d.places) c.new-end.ensures ∙ c.placed.invariant.end) (ap (λ (d : KindDate). d.seconds) c.new-end.ensures) (ap (λ (d : KindDate). d.mode) c.new-end.ensures ∙ sym (mode_back dates.end.mode)) in
    let years = kept_from (rule_view (record { dates = dates; years = c.new.result })) c.new.result
    (ap (λ (k : KeptRule). k.start) c.new.ensures ∙ start) (ap (λ (k : KeptRule). k.end) c.new.ensures ∙ end) (ap (λ (k : KeptRule). k.extra) c.new.ensures ∙ to_z-of_z extra) refl
    (ap (λ (k : KeptRule). k.start_is_first) c.new.ensures ∙ c.start_is_first-first.ensures c.args.raw c.args.first_year) refl in
    record { years = years }
