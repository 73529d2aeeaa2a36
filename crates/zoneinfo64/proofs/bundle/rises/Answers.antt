use Rattle.std.proofs.Common.{sym}
use Rattle.zoneinfo64.proofs.Rising.{rises_on, rises_not, rises_end}
use Rattle.zoneinfo64.proofs.bundle.rises.Goals as goal

pub loop-at-preserved : goal.loop-at-preserved
loop-at-preserved c = rises_on c.args.entries.now c.loop-at.at _ _ c.loop-at.auto.at c.loop-at-test.true c.index-entries-at.is c.index-entries-at-in-loop-at.is (sym c.if-not-is_before.ensures) c.loop-at.invariant

pub returns-then-not-is_before : goal.returns-then-not-is_before
returns-then-not-is_before c = rises_not c.args.entries.now c.loop-at.at _ _ c.loop-at.auto.at c.loop-at-test.true c.index-entries-at.is c.index-entries-at-in-loop-at.is (sym c.if-not-is_before.ensures) c.loop-at.invariant

pub returns : goal.returns
returns c = rises_end c.args.entries.now c.loop-at.at c.loop-at-test.false c.loop-at.invariant
