use Rattle.std.proofs.Common.{ℤ, to_z, of_z, to_z-of_z, FitsSigned, w32, w64, rules, ap, ◌∙◌}
use Rattle.timeline.specs.Neighbours.{Step}
use Rattle.timeline.specs.Inside.EntryWalls.{walls}
use Rattle.timeline.proofs.check.step_walls.Goals as goal

pub returns : goal.returns
returns c =
    let made : ℤ → ℤ → ℤ → Step = λ since before after. record { since = since; before = before; after = after } in
    let since_fits : FitsSigned w64 c.args.entry.now.since = search rules in
    let before_fits : FitsSigned w32 c.seconds.result = search rules in
    let after_fits : FitsSigned w32 c.seconds-2.result = search rules in
    let before = to_z-of_z before_fits ∙ c.seconds.ensures in
    let after = to_z-of_z after_fits ∙ c.seconds-2.ensures in
    c.walls_of.ensures ∙ ap (λ s. walls (made s (to_z w32 (of_z w32 c.seconds.result)) (to_z w32 (of_z w32 c.seconds-2.result)))) (to_z-of_z since_fits)
    ∙ ap (λ b. walls (made c.args.entry.now.since b (to_z w32 (of_z w32 c.seconds-2.result)))) before ∙ ap (λ a. walls (made c.args.entry.now.since c.args.before.now.offset a)) after
