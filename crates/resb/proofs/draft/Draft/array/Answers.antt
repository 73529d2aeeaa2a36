use Rattle.std.proofs.Common.{rules, ◌≡◌, [], ◌++◌, length, refl, arith}
use Rattle.std.specs.Prelude.{vec_len}
use Rattle.std.proofs.lemmas.List.Sums.{sum_by-append}
use Rattle.resb_tree.specs.Weight.{weight}
use Rattle.resb_tree.specs.declared.resource.Resource.TheVariants as r
use Rattle.resb.specs.Pool.{place_of}
use Rattle.resb.proofs.RowParents.{split, parent_more}
use Rattle.resb.proofs.LaidWords.{err_on}
use Rattle.resb.proofs.Rooms.{refused_heavy, refused_long}
use Rattle.resb.proofs.Refusals.{array_short, array_large, parent_deep}
use Rattle.resb.proofs.TreeKinds.{parent-Array}
use Rattle.resb.proofs.draft.Draft.array.Goals as goal

pub returns-in_err-kept : goal.returns-in_err-kept
returns-in_err-kept c =
    let n : vec_len c.args.self.now.laying.items ≡ length c.args.self.now.laying.items.items = search rules in
    let m : vec_len c.args.self.now.levels ≡ length c.args.self.now.levels.items = search rules in
    err_on _ _ _ _ c.from_residual.ensures.1 (array_short c.args.self.now c.args.count _ c.in_err-kept.ensures.err.0 (λ e. omega (arith, n, c.len.ensures, c.in_err-kept.ensures.err.1 (omega (arith, e, n, m, c.len.ensures, c.len-2.ensures)))))

pub returns-in_err-level : goal.returns-in_err-level
returns-in_err-level c =
    let d = c.args.self.now in
    let n : vec_len d.laying.items ≡ length d.laying.items.items = search rules in
    err_on _ _ _ _ c.from_residual-in_err-level.ensures.1 (array_large d c.args.count c.in_ok-kept.kept _ (omega (arith, n, c.len.ensures, c.in_ok-kept.ensures.value))
    (λ keys row xs k h. parent_deep d keys row xs (r.Array xs) [] c.in_ok-kept.kept _ (parent-Array xs) (split d keys row xs c.in_ok-kept.kept h k) (rw c.as_slice.ensures.value at c.in_err-level.ensures.err)))

pub returns-in_err-left : goal.returns-in_err-left
returns-in_err-left c =
    let d = c.args.self.now in
    let n : vec_len d.laying.items ≡ length d.laying.items.items = search rules in
    err_on _ _ _ _ c.from_residual-in_err-left.ensures.1 (array_large d c.args.count c.in_ok-kept.kept _ (omega (arith, n, c.len.ensures, c.in_ok-kept.ensures.value))
    (λ keys row xs k h. refused_heavy d keys (row ++ xs) row (r.Array xs) 0 _ _ (omega (arith, (parent-Array xs).weighs, sum_by-append weight row xs)) h c.in_err-left.ensures.err (λ words room. (words, room))))

pub returns-in_err-item : goal.returns-in_err-item
returns-in_err-item c =
    let d = c.args.self.now in
    let n : vec_len d.laying.items ≡ length d.laying.items.items = search rules in
    err_on _ _ _ _ c.from_residual-in_err-item.ensures.1 (array_large d c.args.count c.in_ok-kept.kept _ (omega (arith, n, c.len.ensures, c.in_ok-kept.ensures.value))
    (λ keys row xs k h. refused_long d keys (row ++ xs) row (r.Array xs) _ _ h (c.in_err-item.ensures.lays (place_of keys) xs _ (split d keys row xs c.in_ok-kept.kept h k).stands) (λ fits. fits)))

pub returns-in_err-put : goal.returns-in_err-put
returns-in_err-put c = err_on _ _ _ _ c.from_residual-in_err-put.ensures.1 (record { short = λ keys row lt h. tt; large = λ keys row xs n h. tt })

pub returns : goal.returns
returns c =
    let d = c.args.self.now in
    let n : vec_len d.laying.items ≡ length d.laying.items.items = search rules in
    λ keys row xs count h.
    let s = split d keys row xs c.in_ok-kept.kept h (omega (arith, n, count, c.len.ensures, c.in_ok-kept.ensures.value)) in (
      h.0,
      rw (c.in_ok-put.ensures.items, c.in_ok-put.ensures.levels, c.in_ok-item.ensures.items, c.truncate.ensures.items)
          (parent_more d keys row xs (r.Array xs) [] c.in_ok-kept.kept c.push_array.new.laying.words.items c.in_ok-item.item c.in_ok-level.level c.in_ok-left.left d.most (parent-Array xs) h s (c.in_ok-item.ensures.lays (place_of keys) xs _ s.stands)
          (rw c.as_slice.ensures.value at c.in_ok-level.ensures.level) c.in_ok-level.ensures.bound c.in_ok-left.ensures.rest (omega arith) refl refl),
    )
