use Rattle.std.proofs.Common.{to_z-of_z, FitsSigned, w64, rules, sym, ◌∙◌}
use Rattle.timeline.proofs.CheckLaws.{small_moved}
use Rattle.timeline.proofs.data.sizes.is_small_pair.Goals as goal

pub returns : goal.returns
returns c =
    let fits : FitsSigned w64 c.sum_of_pair.result = search rules in
    let same = to_z-of_z fits ∙ c.sum_of_pair.ensures in
    (λ t. small_moved _ _ same (c.is_small.ensures.0 t), λ h. c.is_small.ensures.1 (small_moved _ _ (sym same) h))
