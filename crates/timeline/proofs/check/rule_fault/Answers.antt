use Rattle.std.proofs.Common.{◌≡◌, ◌+ℤ◌, true, false, IsTrue, to_z-of_z, FitsSigned, w32, sym, ap, ◌∙◌, rules}
use Rattle.timeline.specs.Inside.KeptRules.{KeptRule, kept_rule}
use Rattle.timeline.specs.Inside.RuleChecks.{RuleKeeps}
use Rattle.timeline.proofs.KeptRules.{kept-raw, kept-extra}
use Rattle.timeline.proofs.LeastFaults.{size_broken, before_broken, all_kept}
use Rattle.timeline.proofs.CheckLaws.{small_moved}
use Rattle.timeline.proofs.TimelineEntries.{same_second}
use Rattle.timeline.proofs.check.rule_fault.Goals as goal

pub returns-then-not-are_small-clause-value : goal.returns-then-not-are_small-clause-value
returns-then-not-are_small-clause-value g c = λ r is. size_broken (RuleKeeps r c.args.last) tt tt (λ small.
    let raw = c.offsets-raw.ensures.raw ∙ ap (λ (k : KeptRule). k.raw) is ∙ kept-raw r in
    let sum = c.offsets-raw.ensures.sum ∙ ap (λ (k : KeptRule). k.raw +ℤ k.extra) is ∙ ap (λ x. x +ℤ (kept_rule r).extra) (kept-raw r) ∙ ap (λ x. r.raw +ℤ x) (kept-extra r) in
    let raw_fits : FitsSigned w32 c.offsets-raw.result.0 = search rules in
    let sum_fits : FitsSigned w32 c.offsets-raw.result.1 = search rules in
    let yes : IsTrue c.are_small.result = c.are_small.ensures.1 (small_moved _ _ (sym (to_z-of_z raw_fits ∙ raw)) small.0, small_moved _ _ (sym (to_z-of_z sum_fits ∙ sum)) small.1) in
    let apart : true ≡ false = sym yes ∙ c.if-not-are_small.true in
    cc)

pub returns-then-not-same_offset-clause-value : goal.returns-then-not-same_offset-clause-value
returns-then-not-same_offset-clause-value g c = λ r is.
    let raw = c.offsets-raw.ensures.raw ∙ ap (λ (k : KeptRule). k.raw) is ∙ kept-raw r in
    let sum = c.offsets-raw.ensures.sum ∙ ap (λ (k : KeptRule). k.raw +ℤ k.extra) is ∙ ap (λ x. x +ℤ (kept_rule r).extra) (kept-raw r) ∙ ap (λ x. r.raw +ℤ x) (kept-extra r) in
    let raw_fits : FitsSigned w32 c.offsets-raw.result.0 = search rules in
    let sum_fits : FitsSigned w32 c.offsets-raw.result.1 = search rules in
    let small = c.are_small.ensures.0 c.if-not-are_small.false in
    before_broken (RuleKeeps r c.args.last) tt tt (small_moved _ _ (to_z-of_z raw_fits ∙ raw) small.0, small_moved _ _ (to_z-of_z sum_fits ∙ sum) small.1) tt tt tt (λ e.
    let yes : IsTrue c.same_offset.result = c.same_offset.ensures.1 (e ∙ same_second r _ _ ∙ sym ((c.year_at-before.ensures.year r is).before)) in
    let apart : true ≡ false = sym yes ∙ c.if-not-same_offset.true in
    cc)

pub returns-clause-value : goal.returns-clause-value
returns-clause-value g c = λ r is.
    let raw = c.offsets-raw.ensures.raw ∙ ap (λ (k : KeptRule). k.raw) is ∙ kept-raw r in
    let sum = c.offsets-raw.ensures.sum ∙ ap (λ (k : KeptRule). k.raw +ℤ k.extra) is ∙ ap (λ x. x +ℤ (kept_rule r).extra) (kept-raw r) ∙ ap (λ x. r.raw +ℤ x) (kept-extra r) in
    let raw_fits : FitsSigned w32 c.offsets-raw.result.0 = search rules in
    let sum_fits : FitsSigned w32 c.offsets-raw.result.1 = search rules in
    let small = c.are_small.ensures.0 c.if-not-are_small.false in
    all_kept (RuleKeeps r c.args.last) tt tt (small_moved _ _ (to_z-of_z raw_fits ∙ raw) small.0, small_moved _ _ (to_z-of_z sum_fits ∙ sum) small.1) tt tt tt
    (c.same_offset.ensures.0 c.if-not-same_offset.false ∙ (c.year_at-before.ensures.year r is).before ∙ same_second r _ _) tt
