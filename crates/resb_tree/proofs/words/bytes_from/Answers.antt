use Rattle.std.proofs.Common.{◌≡◌, ◌*◌, ◌/◌, ◌-◌, ◌++◌, ap, sym, ◌∙◌, arith}
use Rattle.std.proofs.lemmas.Bool.Decides.{nat_tests}
use Rattle.resb_tree.specs.Words.{run, byte_in}
use Rattle.resb_tree.proofs.Runs.{run_join}
use Rattle.resb_tree.proofs.words.bytes_from.Goals as goal

pub loop-at-preserved-then-end-at-ge4 : goal.loop-at-preserved-then-end-at-ge4
loop-at-preserved-then-end-at-ge4 c =
    let byte = byte_in c.args.words.now in
    let at = c.loop-at.at in
    let found = run byte c.args.from (at - c.args.from) in
    let place : 4 * (at / 4) ≡ at = grind (arith, nat_tests) in
    record {
      read = c.push_word.ensures.items ∙ ap (λ xs. xs ++ run byte (4 * (at / 4)) 4) c.loop-at.invariant.read ∙ ap (λ n. found ++ run byte n 4) place ∙ sym (run_join byte c.args.from at 4 c.loop-at.invariant.from);
      from = omega arith;
      end = omega arith;
      room = omega arith;
    }
