use Rattle.std.proofs.Common.{w64, rules, FitsSigned, arith}
use Rattle.std.proofs.lemmas.Int.{ints, to_z-of_z}
use Rattle.timeline.proofs.NextAnswers.{cut_none, cut_kept, cut_dropped}
use Rattle.timeline.proofs.transitions.exact_place.Goals as goal

pub returns-then-place-eq0-clause-value : goal.returns-then-place-eq0-clause-value
returns-then-place-eq0-clause-value g c order cut = cut_none c.args.zone.now c.args.second c.args.place (omega arith) cut

pub returns-then-second_at-second-clause-value : goal.returns-then-second_at-second-clause-value
returns-then-second_at-second-clause-value g c order cut =
    let fits : FitsSigned w64 c.second_at.result = search rules in
    let same = to_z-of_z w64 c.second_at.result fits in
    let second = to_z-of_z w64 c.args.second c.ranges.second in
    let lt = rw (same, second) at c.if-second_at-second.true in
    cut_kept c.args.zone.now c.args.second c.second_at.result c.args.place order (omega arith) c.requires c.second_at.ensures.value (omega (arith, ints, lt)) cut

pub returns-clause-value : goal.returns-clause-value
returns-clause-value g c order cut =
    let fits : FitsSigned w64 c.second_at.result = search rules in
    let same = to_z-of_z w64 c.second_at.result fits in
    let second = to_z-of_z w64 c.args.second c.ranges.second in
    let le = rw (same, second) at c.if-second_at-second.false in
    cut_dropped c.args.zone.now c.args.second c.second_at.result c.args.place order (omega arith) c.requires c.second_at.ensures.value (omega (arith, ints, le)) cut
