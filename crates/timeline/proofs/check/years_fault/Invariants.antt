use Rattle.std.proofs.Common.{◌≡◌, ℕ, ◌+◌, ◌<◌}
use Rattle.civil.specs.Calendar.{example_year}
use Rattle.timeline.specs.Zone.{PlainRule}
use Rattle.timeline.specs.Inside.KeptRules.{kept_rule}
use Rattle.timeline.specs.Inside.LeastFaults.{TellsLeast}
use Rattle.timeline.specs.Inside.RuleChecks.{YearKeeps}
use Rattle.timeline.proofs.check.years_fault.Given as goal

abbrev pub invariant-loop-kind : goal.invariant-loop-kind
invariant-loop-kind g l = record {
  ticks : l.steps ≡ l.initial.steps + l.kind;
  told : (r : PlainRule) → l.rule ≡ kept_rule r → TellsLeast (λ f. (m : ℕ) → m < l.kind → YearKeeps r (example_year m) f) l.least;
}
