use Rattle.std.proofs.Common.{rules, ◌≡◌, true, false, length, arith}
use Rattle.resb_tree.specs.declared.resource.Resource.TheVariants as r
use Rattle.std.specs.Simd.Lanes.{all_below}
use Rattle.resb.proofs.LaidWords.{err_on, leaf_laid}
use Rattle.resb.proofs.Rooms.{refused_heavy, leaf_long}
use Rattle.resb.proofs.Rows.{leaf_put}
use Rattle.resb.proofs.TreeKinds.{IsLeaf, leaf-Text}
use Rattle.resb.proofs.TypeSizes.{units_typed}
use Rattle.resb.proofs.draft.Draft.text.Goals as goal

pub returns-in_err-left : goal.returns-in_err-left
returns-in_err-left c =
    let v = c.args.units.now in
    err_on _ _ _ _ c.from_residual.ensures.1 (λ keys row h. refused_heavy c.args.self.now keys row row (r.Text v) (length v) _ _ (omega (arith, (leaf-Text v).weighs)) h c.in_err-left.ensures.err (λ words room. (words, room)))

pub returns-in_err-item : goal.returns-in_err-item
returns-in_err-item c =
    let v = c.args.units.now in
    err_on _ _ _ _ c.from_residual-in_err-item.ensures.1 (leaf_long c.args.self.now (r.Text v) _ _ c.in_err-item.ensures.err (λ places fits. rw (leaf-Text v).same at fits.room))

pub returns-in_err-put : goal.returns-in_err-put
returns-in_err-put c = err_on _ _ _ _ c.from_residual-in_err-put.ensures.1 (λ keys row h. tt)

pub returns : goal.returns
returns c =
    let d = c.args.self.now in
    let v = c.args.units.now in
    let t : all_below 65536 v ≡ true = search (rules, units_typed) in
    let l : IsLeaf (r.Text v) (length v) false true = rw t at (leaf-Text v) in
    leaf_put d (r.Text v) (length v) l c.lay_text.new.out.items _ _ c.in_ok-item.item c.in_ok-left.left (leaf_laid (r.Text v) (length v) true l d.base d.laying.words.items c.lay_text.new.out.items c.in_ok-item.item c.in_ok-item.ensures.words c.in_ok-item.ensures.item c.in_ok-item.ensures.bound)
    c.in_ok-left.ensures.rest c.in_ok-put.ensures.items c.in_ok-put.ensures.levels
