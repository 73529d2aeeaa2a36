use Rattle.std.proofs.Common.{[], ◌∷◌, refl}
use Rattle.tell.proofs.large.words.Goals as goal

pub returns : goal.returns
returns c =
    let two = c.in_ok-tell_names.ensures _ _ (c.in_ok-tell_zones.ensures _ _ c.in_ok-draft.ensures) in
    let three = c.in_ok-table.ensures _ (_ ∷ _ ∷ []) [] refl two in
    let four = c.in_ok-tell_regions.ensures _ _ three in
    c.write.ensures.denoted _ (c.in_ok-table-2.ensures _ [] _ refl four)
