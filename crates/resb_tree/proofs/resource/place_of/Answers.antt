use Rattle.std.proofs.Common.{◌≡◌, true, sym, subst}
use Rattle.std.specs.Str.{bytes_eq}
use Rattle.resb_tree.proofs.FirstEntries.{first_here}
use Rattle.resb_tree.proofs.resource.place_of.Goals as goal

pub returns-then-eq-clause-some : goal.returns-then-eq-clause-some
returns-then-eq-clause-some c =
    let same : bytes_eq c.as_slice.result.now c.args.key.now ≡ true = sym c.if-eq.ensures in
    first_here c.args.key.now c.args.entries.now c.loop-at.at c.index-entries-at.result c.loop-at-test.true (subst (λ name. bytes_eq name c.args.key.now ≡ true) c.as_slice.ensures same) c.loop-at.invariant
