use Rattle.std.proofs.Common.{◌≡◌, to_z, of_z, to_z-of_z, w32, FitsSigned, rules, ap, ◌∙◌, arith}
use Rattle.std.specs.Int.{int_min, int_max}
use Rattle.jiff_core.proofs.SignedLemmas.{signed_casts}
use Rattle.timeline.proofs.CheckLaws.{walls_are}
use Rattle.timeline.proofs.check.walls_of.Goals as goal

pub returns : goal.returns
returns c =
    let before : to_z w32 (of_z w32 c.args.before) ≡ c.args.before = to_z-of_z c.ranges.before in
    let after : to_z w32 (of_z w32 c.args.after) ≡ c.args.after = to_z-of_z c.ranges.after in
    let least = c.min.ensures.value ∙ ap (λ x. int_min x (to_z w32 (of_z w32 c.args.after))) before ∙ ap (int_min c.args.before) after in
    let most = c.max.ensures.value ∙ ap (λ x. int_max x (to_z w32 (of_z w32 c.args.after))) before ∙ ap (int_max c.args.before) after in
    let low : FitsSigned w32 c.min.result = search rules in
    let high : FitsSigned w32 c.max.result = search rules in
    walls_are (record { since = c.args.since; before = c.args.before; after = c.args.after }) _ _ _ (omega (arith, signed_casts))
    (omega (arith, signed_casts, least))
    (omega (arith, signed_casts, most))
