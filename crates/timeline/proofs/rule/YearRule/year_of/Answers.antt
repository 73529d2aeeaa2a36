use Rattle.std.proofs.Common.{◌≡◌, ℤ, to_z, of_z, to_z-of_z, w64, sym, ap, ◌∙◌}
use Rattle.timeline.specs.Timeline.{offset_of}
use Rattle.timeline.specs.Zone.{PlainRule}
use Rattle.timeline.specs.Inside.KeptRules.{KeptRule, kept_rule}
use Rattle.timeline.specs.Inside.KeptYears.{BeginsYear}
use Rattle.timeline.proofs.KeptRules.{InOrder, in_order}
use Rattle.timeline.proofs.rule.YearRule.year_of.Goals as goal
use Rattle.timeline.proofs.rule.YearRule.year_of.Goals.{After-in_order}

-- the two transitions are those of the rule that is kept
told : (c : After-in_order) (r : PlainRule) (y : ℤ) → c.args.self.now ≡ kept_rule r → BeginsYear y c.args.day c.args.kind → InOrder r y c.self.inside.start_is_first c.start_in.result c.end_in.result
told c r y is of =
    let day : to_z w64 (of_z w64 c.args.day) ≡ c.args.day = to_z-of_z c.ranges.day in
    in_order c.rules_go_by_kind.ensures r c.args.self.now y _ _ _ _ _ (rw (sym of.kind) c.requires.kind) is (day ∙ of.first_day) of.kind (ap (λ (k : KeptRule). k.start_is_first) c.self.view_is) c.start_in.ensures c.end_in.ensures

pub returns : goal.returns
returns c y of r is =
    let entries = told c r y is of in
    record {
      before = c.in_order.ensures.before ∙ ap offset_of entries.second_is;
      first = c.in_order.ensures.first ∙ entries.first_is;
      second = c.in_order.ensures.second ∙ entries.second_is;
    }
