use Rattle.std.proofs.Common.{◌≤◌, append_assoc}
use Rattle.std.proofs.lemmas.Fmt.{decimal_digit}
use Rattle.timeago.proofs.Digits.{decimal_two}
use Rattle.timeago.proofs.pieces.push_count.Goals as goal

pub returns-then-count-lt10-clause-ok : goal.returns-then-count-lt10-clause-ok
returns-then-count-lt10-clause-ok c = rw (decimal_digit c.args.count c.if-count-lt10.true) c.in_ok-push_digit.ensures.ok

pub returns-then-count-lt100-clause-ok : goal.returns-then-count-lt100-clause-ok
returns-then-count-lt100-clause-ok c =
    let low : 10 ≤ c.args.count = c.if-count-lt10.false in
    rw (c.in_ok-push_digit-3.ensures.ok, c.in_ok-push_digit-2.ensures.ok, decimal_two c.args.count low c.if-count-lt100.true) (simp append_assoc)
