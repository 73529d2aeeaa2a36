use Rattle.std.proofs.Common.{◌≡◌, ◌<◌, take, sym, ◌∙◌, arith}
use Rattle.std.proofs.lemmas.Bool.Decides.{nat_tests}
use Rattle.std.proofs.lemmas.List.{take_all}
use Rattle.zoneinfo64.proofs.utf16.copy_ascii.Goals as goal

pub returns-clause-same : goal.returns-clause-same
returns-clause-same c = λ t.
    let loop = c.loop-at in
    let low : loop.greatest < 128 = grind (arith, nat_tests) in
    let bytes : take loop.at loop.bytes ≡ loop.bytes = take_all loop.at loop.bytes (omega (arith, loop.invariant.narrow)) in
    let units : take loop.at c.args.units.now ≡ c.args.units.now = take_all loop.at c.args.units.now (omega (arith, loop.invariant.wide)) in
    sym bytes ∙ loop.invariant.same low ∙ units
