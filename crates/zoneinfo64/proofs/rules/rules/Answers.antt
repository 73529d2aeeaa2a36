use Rattle.std.proofs.Common.{drop, arith}
use Rattle.std.proofs.lemmas.Result.{err_from_is_err_and}
use Rattle.zoneinfo64.proofs.RuleKeys.{rule_put, rules_broken, one_before}
use Rattle.zoneinfo64.proofs.rules.rules.Goals as goal

pub returns-in_err-dates : goal.returns-in_err-dates
returns-in_err-dates c =
    let p = err_from_is_err_and c.from_residual.result c.from_residual.ensures.1 in
    rw (p.1, p.2) (rules_broken c.in_err-dates.field-0.0 c.args.entries.now c.loop-at.at c.at-key.result c.loop-at-test.true c.at-key.ensures c.in_err-dates.ensures)

pub loop-at-preserved : goal.loop-at-preserved
loop-at-preserved c = record {
  within = omega (arith, c.loop-at.invariant.within);
  has = rw (one_before c.args.entries.now c.loop-at.at c.at-key.result c.loop-at-test.true c.at-key.ensures)
      (rule_put c.loop-at.rules c.insert.new.self c.in_ok-key.key c.in_ok-dates.dates c.at-key.result (drop c.loop-at.at c.args.entries.now)
      c.in_ok-insert.ensures.entries c.in_ok-key.ensures c.in_ok-dates.ensures c.loop-at.invariant.has);
}
