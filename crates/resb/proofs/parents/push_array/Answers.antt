use Rattle.std.proofs.Common.{rules, ◌≡◌, ◌∙◌, ◌+◌, ◌-◌, [], ◌∷◌, length, sym, arith}
use Rattle.std.specs.Prelude.{vec_len}
use Rattle.std.proofs.lemmas.Bool.{leb-true, leb-false}
use Rattle.resb_tree.specs.declared.resource.Resource.TheVariants as r
use Rattle.resb.proofs.LaidParents.{count_is, empty_array, behind, room_behind}
use Rattle.resb.proofs.LaidWords.{err_on}
use Rattle.resb.proofs.TreeKinds.{parent-Array, array_over}
use Rattle.resb.proofs.parents.push_array.Goals as goal

pub returns-then-count-eq0-clause-lays : goal.returns-then-count-eq0-clause-lays
returns-then-count-eq0-clause-lays c =
    let n : vec_len c.args.laying.now.items ≡ length c.args.laying.now.items.items = search rules in
    λ places xs old s. empty_array xs places c.args.base old _ _ (count_is xs places c.args.base old _ c.args.laying.now.items.items c.args.kept 0 s (omega (arith, n, c.len.ensures))) s

pub returns-then-not-has_room-clause-lays : goal.returns-then-not-has_room-clause-lays
returns-then-not-has_room-clause-lays c =
    let n : vec_len c.args.laying.now.items ≡ length c.args.laying.now.items.items = search rules in
    let full = leb-false _ _ (sym c.has_room.ensures ∙ c.if-not-has_room.true) in
    λ places xs old s fits.
    let k = count_is xs places c.args.base old _ c.args.laying.now.items.items c.args.kept (c.len.result - c.args.kept) s (omega (arith, n, c.len.ensures)) in
    omega (arith, k, full, c.saturating_add.ensures, room_behind (r.Array xs) xs places (length xs ∷ []) 2147483648 c.args.base old c.args.laying.now.words.items _ (array_over xs places (omega (arith, k))) s fits)

pub returns-in_err-push-clause-lays : goal.returns-in_err-push-clause-lays
returns-in_err-push-clause-lays c = λ places xs old s. err_on _ _ _ _ c.from_residual.ensures.1 tt

pub returns-in_err-unstack-clause-lays : goal.returns-in_err-unstack-clause-lays
returns-in_err-unstack-clause-lays c = λ places xs old s. err_on _ _ _ _ c.from_residual-in_err-unstack.ensures.1 tt

pub returns-clause-lays : goal.returns-clause-lays
returns-clause-lays c =
    let n : vec_len c.args.laying.now.items ≡ length c.args.laying.now.items.items = search rules in
    let w : vec_len c.args.laying.now.words ≡ length c.args.laying.now.words.items = search rules in
    let room = leb-true _ _ (sym c.has_room.ensures ∙ c.if-not-has_room.false) in
    λ places xs old s.
    let k = count_is xs places c.args.base old _ c.args.laying.now.items.items c.args.kept (c.len.result - c.args.kept) s (omega (arith, n, c.len.ensures)) in
    behind (r.Array xs) xs [] places (length xs ∷ []) 2147483648 c.args.base old _ _ _ _ (2147483648 + (c.args.base + c.len-2.result)) (parent-Array xs) (array_over xs places (omega (arith, k))) (omega arith) (omega arith)
    s (rw k c.in_ok-push.ensures.items) c.in_ok-unstack.ensures.words (omega (arith, w, c.len-2.ensures)) (omega (arith, k, room, c.saturating_add.ensures))
