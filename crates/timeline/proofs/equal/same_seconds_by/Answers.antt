use Rattle.std.proofs.Common.{w64, of_z, sym, ap, arith}
use Rattle.timeline.proofs.EqualTables.{other_length, other_second, all_same}
use Rattle.timeline.proofs.equal.same_seconds_by.Goals as goal

pub returns-then-len : goal.returns-then-len
returns-then-len g c = sym (other_length c.args.a.now.table c.args.b.now.table (λ same. let there = c.if-len.true in omega (arith, same, there, c.len.ensures, c.len-2.ensures)))

pub returns-then-second_at : goal.returns-then-second_at
returns-then-second_at g c =
    sym (other_second c.args.a.now.table c.args.b.now.table c.loop-n.n c.second_at.result c.second_at-in-loop-n.result c.second_at.ensures.value c.second_at-in-loop-n.ensures.value (λ same. c.if-second_at.true (ap (of_z w64) same)))

pub returns : goal.returns
returns g c = sym (all_same c.args.a.now.table c.args.b.now.table c.loop-n.n (let there = c.if-len.false in omega (arith, there, c.len.ensures, c.len-2.ensures)) (omega arith) c.loop-n.invariant)
