use Rattle.std.proofs.Common.{◌≡◌, ◌≢◌, ◌+◌, ◌-◌, ◌%◌, ◌∙◌, sym, arith}
use Rattle.std.proofs.lemmas.Bool.{eq-eqb, ne_eqb}
use Rattle.resb_tree.specs.Words.{byte_in}
use Rattle.resb_tree.specs.BodyView.{told}
use Rattle.resb_tree.specs.Inside.Bytes.{HoldBytes}
use Rattle.resb_tree.proofs.Held.{held_first, held_next}
use Rattle.resb_tree.proofs.KeyPlaces.{key_next, bytes_next}
use Rattle.resb_tree.proofs.key_places.key_is.Goals.{then-i-eq3, else-i-eq3}
use Rattle.resb_tree.proofs.key_places.key_is.Goals as goal

pub loop-i-preserved : goal.loop-i-preserved
loop-i-preserved c =
    let b = told c.args.body.now in
    let i = c.loop-i.i in
    let at = c.args.place + i in
    let first : c.loop-i.left % 256 ≡ byte_in b.words at = held_first b.words at i c.loop-i.left c.loop-i.invariant.left in
    let more : byte_in b.words at ≢ 0 = λ z. c.if-byte-eq0.false (first ∙ z) in
    let next = bytes_next b at i c.args.bytes.now c.loop-i.invariant.key c.loop-i-test.true in
    let behind : c.args.place + (i + 1) ≡ at + 1 = omega arith in
    let left : HoldBytes b.words (at + 1) (4 - (i + 1) % 4) c.if-i-eq3.left = elim c.if-i-eq3.branch [
      | then-i-eq3 w ↦ let whole : 4 - (i + 1) % 4 ≡ 4 = omega (arith, w.if-i-eq3.true) in rw (whole, w.left-is) w.four_bytes-left-then-i-eq3.ensures
      | else-i-eq3 w ↦ rw w.left-is (held_next b.words at i c.loop-i.left w.if-i-eq3.false c.loop-i.invariant.left)
    ] in
    rw behind record {
      key = key_next b at c.loop-i.invariant.key more;
      left = left;
      same = sym (rw (ne_eqb (byte_in b.words at) 0 more, eq-eqb (byte_in b.words at) _ (sym first ∙ c.if-byte-bytes.false)) at next) ∙ c.loop-i.invariant.same;
    }
