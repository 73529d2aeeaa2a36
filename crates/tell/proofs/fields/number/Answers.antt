use Rattle.std.proofs.Common.{arith}
use Rattle.std.proofs.lemmas.Bool.Decides.{nat_tests}
use Rattle.std.proofs.lemmas.Grind.{common_steps}
use Rattle.tell.proofs.FieldCuts.{no_number, a_number}
use Rattle.tell.proofs.fields.number.Goals as goal
use Rattle.tell.proofs.fields.number.Goals.{then-loop-count-test+else-is_ascii_digit, else-loop-count-test, then-count-eq0-via-then-count-eq0, then-count-eq0-via-else-count-eq0+then-count-bytes, then-count-eq0-via-else-count-eq0+else-count-bytes+then-bytes-count-ne9}

pub returns-then-count-eq0-clause-value : goal.returns-then-count-eq0-clause-value
returns-then-count-eq0-clause-value c =
    no_number c.args.bytes.now c.loop-count.value c.loop-count.count c.loop-count.invariant.read
    (λ inside low high. elim c.loop-count-test.branch [
      | then-loop-count-test+else-is_ascii_digit w ↦ grind (arith, w.is_ascii_digit.ensures.cases, w.if-is_ascii_digit.false, nat_tests, common_steps)
      | else-loop-count-test w ↦ omega (arith, w.loop-count-test.false)
    ])
    (λ inside tab. elim c.then-count-eq0.branch [
      | then-count-eq0-via-then-count-eq0 w ↦ w.if-count-eq0.true
      | then-count-eq0-via-else-count-eq0+then-count-bytes w ↦ absurd (omega (arith, w.if-count-bytes.true))
      | then-count-eq0-via-else-count-eq0+else-count-bytes+then-bytes-count-ne9 w ↦ absurd (w.if-bytes-count-ne9.true tab)
    ])

pub returns-clause-value : goal.returns-clause-value
returns-clause-value c =
    a_number c.args.bytes.now c.loop-count.value c.loop-count.count c.loop-count.invariant.read
    (omega (arith, c.if-count-bytes.false)) c.if-bytes-count-ne9.false (omega (arith, c.if-count-eq0.false)) (omega arith)
