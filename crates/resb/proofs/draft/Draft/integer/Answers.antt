use Rattle.std.proofs.Common.{◌∙◌, sym, arith}
use Rattle.std.proofs.lemmas.Bool.{leb-false}
use Rattle.resb_tree.specs.Words.{value_count}
use Rattle.resb_tree.specs.declared.resource.Resource.TheVariants as r
use Rattle.resb.proofs.LaidWords.{err_on}
use Rattle.resb.proofs.Rooms.{refused_heavy, leaf_long}
use Rattle.resb.proofs.Rows.{narrow, integer_laid, leaf_put}
use Rattle.resb.proofs.TreeKinds.{leaf-Integer}
use Rattle.resb.proofs.draft.Draft.integer.Goals as goal

pub returns-in_err-left : goal.returns-in_err-left
returns-in_err-left c =
    let v = c.args.value in
    err_on _ _ _ _ c.from_residual.ensures.1 (λ keys row h. refused_heavy c.args.self.now keys row row (r.Integer v) 0 _ _ (omega (arith, (leaf-Integer v).weighs)) h c.in_err-left.ensures.err (λ words room. (words, room)))

pub returns-in_err-item : goal.returns-in_err-item
returns-in_err-item c =
    let v = c.args.value in
    err_on _ _ _ _ c.from_residual-in_err-item.ensures.1 (leaf_long c.args.self.now (r.Integer v) _ _ c.in_err-item.ensures.err (λ places fits. omega (arith, leb-false value_count v (sym (leaf-Integer v).wide_is ∙ fits.small))))

pub returns-in_err-put : goal.returns-in_err-put
returns-in_err-put c = err_on _ _ _ _ c.from_residual-in_err-put.ensures.1 (λ keys row h. tt)

pub returns : goal.returns
returns c =
    let d = c.args.self.now in
    let v = c.args.value in
    leaf_put d (r.Integer v) 0 (narrow v c.in_ok-item.ensures.bound) d.laying.words.items _ _ c.in_ok-item.item c.in_ok-left.left (rw c.in_ok-item.ensures.item (integer_laid v c.in_ok-item.ensures.bound d.base d.laying.words.items c.in_ok-left.ensures.room))
    c.in_ok-left.ensures.rest c.in_ok-put.ensures.items c.in_ok-put.ensures.levels
