use Rattle.std.proofs.Common.{◌≡◌, ◌+◌, ◌*◌, ◌/◌, ◌%◌, ◌^◌, ◌∙◌, subst, Fits, w32, arith}
use Rattle.resb_tree.specs.Inside.Bytes.{HoldBytes}
use Rattle.resb_tree.proofs.Held.{held}
use Rattle.resb_tree.proofs.words.four_bytes.Goals as goal

pub returns : goal.returns
returns c =
    let place = c.args.at / 4 in
    let at : 4 * place + c.args.at % 4 ≡ c.args.at = omega arith in
    let fits : Fits w32 c.from-low.result = rw c.from-low.ensures (c.type_inv.words place) in
    subst (λ n. HoldBytes c.args.words.now n 4 ((c.from-low.result + c.from-high.result * 4294967296) / 2 ^ (8 * (c.args.at % 4)) % 4294967296)) at
    (held c.args.words.now place (c.args.at % 4) c.from-low.result c.from-high.result (omega arith) (grind arith) c.from-low.ensures (c.from-high.ensures ∙ c.word_at.ensures))
