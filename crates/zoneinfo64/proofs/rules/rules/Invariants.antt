use Rattle.std.proofs.Common.{◌≤◌, length, drop}
use Rattle.zoneinfo64.specs.Inside.RuleSteps.{HasRules}
use Rattle.zoneinfo64.specs.RuleFields.{rules_of}
use Rattle.zoneinfo64.proofs.rules.rules.Given as goal

-- the rules from here on were put in
abbrev pub invariant-loop-at : goal.invariant-loop-at
invariant-loop-at l = record {
  within : l.at ≤ length l.entries;
  has : HasRules l.rules (rules_of (drop l.at l.entries));
}

abbrev pub decreases-loop-at : goal.decreases-loop-at
decreases-loop-at l = l.at
