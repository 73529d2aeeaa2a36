use Rattle.std.proofs.Common.{sym}
use Rattle.zoneinfo64.specs.Inside.ZoneList.{zones_of}
use Rattle.zoneinfo64.proofs.Resolved.{resolved_on, resolved_not, resolved_end}
use Rattle.zoneinfo64.proofs.bundle.all_resolved.Goals as goal

pub loop-at-preserved : goal.loop-at-preserved
loop-at-preserved c = resolved_on (zones_of c.args.entries.now) c.args.entries.now c.loop-at.at _ c.loop-at-test.true c.index-entries-at.is (sym c.if-not-is_resolved.ensures) c.loop-at.invariant

pub returns-then-not-is_resolved : goal.returns-then-not-is_resolved
returns-then-not-is_resolved c = resolved_not (zones_of c.args.entries.now) c.args.entries.now c.loop-at.at _ c.loop-at-test.true c.index-entries-at.is (sym c.if-not-is_resolved.ensures) c.loop-at.invariant

pub returns : goal.returns
returns c = resolved_end (zones_of c.args.entries.now) c.args.entries.now c.loop-at.at c.loop-at-test.false c.loop-at.invariant
