use Rattle.std.proofs.Common.{◌≡◌, ◌≢◌, ◌∙◌, ◌+◌, ◌-◌, ◌*◌, ◌≤◌, ◌∷◌, [], length, ap, arith}
use Rattle.resb_tree.specs.Weight.{most_weight}
use Rattle.resb.specs.Inside.Bundles.{bundle_of}
use Rattle.resb.specs.TreeKeys.{key_pool}
use Rattle.resb.specs.WrittenFiles.{written}
use Rattle.resb.proofs.LaidWords.{err_on}
use Rattle.resb.proofs.RowParts.{row_written, row_light, row_denotes}
use Rattle.resb.proofs.Rooms.{row_items, not_one, no_words, too_heavy}
use Rattle.resb.proofs.draft.Draft.write.Goals as goal

pub returns-in_err-root-clause-err : goal.returns-in_err-root-clause-err
returns-in_err-root-clause-err c =
    let d = c.args.self in
    let few : length d.laying.items.items ≢ 1 = rw c.as_slice.ensures.value at c.in_err-root.ensures.err.1 in
    λ keys row h. err_on _ _ _ _ c.from_residual.ensures.1 (not_one d keys row _ h c.in_err-root.ensures.err.0 few)

pub returns-in_err-check_room-clause-err : goal.returns-in_err-check_room-clause-err
returns-in_err-check_room-clause-err c =
    λ keys row h. err_on _ _ _ _ c.from_residual-in_err-check_room.ensures.1 (no_words c.args.self keys row _ h c.in_err-check_room.ensures.err)

pub returns-in_err-words-clause-err : goal.returns-in_err-words-clause-err
returns-in_err-words-clause-err c =
    let d = c.args.self in
    let one : d.laying.items.items ≡ c.in_ok-root.root ∷ [] = rw c.as_slice.ensures.value at c.in_ok-root.ensures.item in
    λ keys row h. err_on _ _ _ _ c.from_residual-in_err-words.ensures.1 (too_heavy d keys row _ c.saturating_sub-weighed.result _ c.as_slice-2.result.now h one (omega (arith, c.saturating_sub-weighed.ensures)) c.as_slice-2.ensures.value c.in_err-words.ensures.err)

pub returns-clause-words : goal.returns-clause-words
returns-clause-words c =
    let d = c.args.self in
    let one : d.laying.items.items ≡ c.in_ok-root.root ∷ [] = rw c.as_slice.ensures.value at c.in_ok-root.ensures.item in
    λ tree h.
    let made : c.in_ok-words.words.items ≡ bundle_of (key_pool tree) d.base c.in_ok-root.root d.laying.words.items d.most = rw (h.0, c.as_slice-2.ensures.value, c.from-most.ensures) at c.in_ok-words.ensures.words in
    made ∙ row_written tree d.base d.laying.words.items d.laying.items.items d.levels.items d.left d.most c.in_ok-root.root h.1 one

pub returns-clause-bound : goal.returns-clause-bound
returns-clause-bound c =
    let d = c.args.self in
    let light : most_weight - d.left ≤ 8 * (6 + (d.base + length d.laying.words.items)) = omega (arith, c.in_ok-words.ensures.bound, c.saturating_sub-weighed.ensures, ap length c.as_slice-2.ensures.value) in
    λ tree h. row_light tree d.base d.laying.words.items d.laying.items.items d.levels.items d.left d.most h.1 light

pub returns-clause-denoted : goal.returns-clause-denoted
returns-clause-denoted c =
    let d = c.args.self in
    λ tree h.
    let made : c.in_ok-words.words.items ≡ written tree = returns-clause-words c tree h in
    rw made (row_denotes tree d.base d.laying.words.items d.laying.items.items d.levels.items d.left d.most h.1 (returns-clause-bound c tree h))

pub returns-clause-one : goal.returns-clause-one
returns-clause-one c =
    let d = c.args.self in
    let one : d.laying.items.items ≡ c.in_ok-root.root ∷ [] = rw c.as_slice.ensures.value at c.in_ok-root.ensures.item in
    λ keys row h. omega (arith, row_items d keys row h, ap length one)
