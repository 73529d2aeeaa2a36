use Rattle.std.proofs.Common.{rules}
use Rattle.timeline.specs.Inside.RuleChecks.{PairKeeps}
use Rattle.timeline.proofs.LeastFaults.{year_broken, all_kept}
use Rattle.timeline.proofs.check.pair_fault.Goals as goal

pub returns-then-not-both_lie_in : goal.returns-then-not-both_lie_in
returns-then-not-both_lie_in c = year_broken (PairKeeps c.args.first c.args.second c.args.low c.args.high) tt tt tt (search rules) (search rules) tt tt (search rules)

pub returns : goal.returns
returns c = all_kept (PairKeeps c.args.first c.args.second c.args.low c.args.high) tt tt tt (search rules) (search rules) tt tt (search rules)
