use Rattle.std.specs.List.{list_any}
use Rattle.std.proofs.Common.{◌≡◌, ◌∙◌, refl, sym, false, ℕ, List, [], ◌∷◌, Vec, Global}
use Rattle.resb.specs.declared.pool.KeyPool.{KeyPool}
use Rattle.resb.specs.DraftRows.{Holds}
use Rattle.resb.specs.Pool.{bare}
use Rattle.resb.specs.TreeKeys.{key_pool, keys_met}
use Rattle.resb.specs.BadKeys.{has_bad_key}
use Rattle.resb.proofs.Pools.{pool_first}
use Rattle.resb.proofs.RowParts.{row_kept}
use Rattle.resb.proofs.WrittenWords.{pool_told, pool_good, over_end, kept_room, error_on, refusal_told, answer_told}
use Rattle.resb.proofs.writing.write.Goals as goal

abbrev view : Vec ℕ Global → List ℕ
view v = v.items

pub returns-in_err-pool-clause-words : goal.returns-in_err-pool-clause-words
returns-in_err-pool-clause-words c =
    let good : has_bad_key c.args.tree.now ≡ false = sym c.in_ok-has_bad_key.ensures ∙ c.if-branch.false in
    let keys : KeyPool → List (List ℕ) = λ p. bare p.keys.items in
    error_on view c.from_residual-in_err-pool.result _ _ c.from_residual-in_err-pool.ensures.1 (pool_told keys c.args.tree.now c.in_err-pool.field-0.0 view good c.in_err-pool.ensures)

pub over-requires-clause-near : goal.over-requires-clause-near
over-requires-clause-near c = (pool_first (keys_met c.args.tree.now) _ c.in_ok-pool.ensures).1

pub over-requires-clause-good : goal.over-requires-clause-good
over-requires-clause-good c = pool_good c.args.tree.now _ (sym c.in_ok-has_bad_key.ensures ∙ c.if-branch.false) c.in_ok-pool.ensures

pub returns-in_err-draft-clause-words : goal.returns-in_err-draft-clause-words
returns-in_err-draft-clause-words c =
    let good : has_bad_key c.args.tree.now ≡ false = sym c.in_ok-has_bad_key.ensures ∙ c.if-branch.false in
    error_on view c.from_residual-in_err-draft.result _ _ c.from_residual-in_err-draft.ensures.1 (refusal_told c.args.tree.now _ view _ good (over_end c.args.tree.now _ c.in_ok-pool.ensures) c.in_err-draft.ensures.err)

pub returns-in_err-tell-clause-words : goal.returns-in_err-tell-clause-words
returns-in_err-tell-clause-words c =
    let t = c.args.tree.now in
    let good : has_bad_key t ≡ false = sym c.in_ok-has_bad_key.ensures ∙ c.if-branch.false in
    let none : list_any has_bad_key (t ∷ []) ≡ false = rw good refl in
    let begun : Holds c.in_ok-draft.draft (key_pool t) [] = rw (pool_first (keys_met t) _ c.in_ok-pool.ensures).0 at c.in_ok-draft.ensures.holds in
    error_on view c.from_residual-in_err-tell.result _ _ c.from_residual-in_err-tell.ensures.1 (refusal_told t _ view _ good (kept_room t) (c.in_err-tell.ensures (key_pool t) [] none begun))

pub returns-clause-words : goal.returns-clause-words
returns-clause-words c =
    let t = c.args.tree.now in
    let good : has_bad_key t ≡ false = sym c.in_ok-has_bad_key.ensures ∙ c.if-branch.false in
    let none : list_any has_bad_key (t ∷ []) ≡ false = rw good refl in
    let begun : Holds c.in_ok-draft.draft (key_pool t) [] = rw (pool_first (keys_met t) _ c.in_ok-pool.ensures).0 at c.in_ok-draft.ensures.holds in
    let held : Holds c.tell.new.draft (key_pool t) (t ∷ []) = c.in_ok-tell.ensures (key_pool t) [] none begun in
    answer_told view t c.write.result good (row_kept t _ _ _ _ _ _ held.1) (c.write.ensures.words t held) (c.write.ensures.bound t held) (c.write.ensures.err (key_pool t) (t ∷ []) held)

pub returns-clause-denoted : goal.returns-clause-denoted
returns-clause-denoted c =
    let t = c.args.tree.now in
    let good : has_bad_key t ≡ false = sym c.in_ok-has_bad_key.ensures ∙ c.if-branch.false in
    let none : list_any has_bad_key (t ∷ []) ≡ false = rw good refl in
    let begun : Holds c.in_ok-draft.draft (key_pool t) [] = rw (pool_first (keys_met t) _ c.in_ok-pool.ensures).0 at c.in_ok-draft.ensures.holds in
    c.write.ensures.denoted t (c.in_ok-tell.ensures (key_pool t) [] none begun)
