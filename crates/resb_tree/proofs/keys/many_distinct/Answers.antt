use Rattle.std.proofs.Common.{arith}
use Rattle.resb_tree.proofs.KeySets.{stands_twice, stands_once, gains}
use Rattle.resb_tree.proofs.keys.many_distinct.Goals as goal

pub returns-then-not-branch : goal.returns-then-not-branch
returns-then-not-branch g c =
    stands_twice c.args.entries.now c.loop-at.at c.index-entries-at.result c.as_slice.result c.loop-at.later.keys c.in_ok-insert.field-0 c.loop-at-test.true c.loop-at.invariant.within
    c.as_slice.ensures (c.loop-at.invariant.has c.as_slice.result) c.in_ok-insert.ensures.added c.if-not-branch.true

pub loop-at-preserved : goal.loop-at-preserved
loop-at-preserved g c = record {
  within = omega arith;
  apart = stands_once c.args.entries.now c.loop-at.at c.index-entries-at.result c.as_slice.result c.loop-at.later.keys c.in_ok-insert.field-0 c.loop-at-test.true c.loop-at.invariant.within
      c.as_slice.ensures (c.loop-at.invariant.has c.as_slice.result) c.loop-at.invariant.apart c.in_ok-insert.ensures.added c.if-not-branch.false;
  has = λ q. gains c.args.entries.now c.loop-at.at c.index-entries-at.result c.as_slice.result q c.loop-at.later.keys c.insert.new.self.keys c.loop-at-test.true c.loop-at.invariant.within
      c.as_slice.ensures (c.loop-at.invariant.has q) (c.in_ok-insert.ensures.updates.0 q);
}
