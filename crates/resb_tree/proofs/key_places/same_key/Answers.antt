use Rattle.std.proofs.Common.{◌≡◌, ◌≢◌, ◌∙◌, refl, sym}
use Rattle.std.proofs.lemmas.Bool.{eq-eqb, ne_eqb}
use Rattle.resb_tree.specs.Words.{byte_in}
use Rattle.resb_tree.specs.BodyView.{told}
use Rattle.resb_tree.proofs.KeyPlaces.{key_next, keys_next}
use Rattle.resb_tree.proofs.key_places.same_key.Goals as goal

pub loop-one-preserved : goal.loop-one-preserved
loop-one-preserved c =
    let b = told c.args.body in
    let x = byte_in b.words c.loop-one.at in
    let more : x ≢ 0 = λ z. c.if-byte-eq0.false (c.byte_at-byte.ensures ∙ z) in
    let same : byte_in b.words c.loop-one.there ≡ x = sym c.byte_at.ensures ∙ sym c.if-byte-byte_at.false ∙ c.byte_at-byte.ensures in
    let next = keys_next b c.loop-one.at c.loop-one.there c.loop-one.invariant.one c.loop-one.invariant.other in record {
      one = key_next b c.loop-one.at c.loop-one.invariant.one more;
      other = key_next b c.loop-one.there c.loop-one.invariant.other (λ z. more (sym same ∙ z));
      same = sym (rw (same, eq-eqb x x refl, ne_eqb x 0 more) at next) ∙ c.loop-one.invariant.same;
    }
