use Rattle.std.proofs.Common.{rules, ◌≡◌, ◌≤◌, ◌∷◌, ◌++◌, length, arith}
use Rattle.std.specs.Prelude.{map, sum_by, vec_len}
use Rattle.std.proofs.lemmas.List.{length-map}
use Rattle.std.proofs.lemmas.List.Sums.{sum_by-append}
use Rattle.resb_tree.specs.declared.error.ResbError.TheVariants.{TooLarge}
use Rattle.resb_tree.specs.declared.resource.Resource.TheVariants as r
use Rattle.resb_tree.specs.Weight.{weight}
use Rattle.resb.specs.Entries.{values_in}
use Rattle.resb.specs.Packing.{most_unit}
use Rattle.resb.specs.Pool.{bare, place_of}
use Rattle.resb.specs.WrittenFiles.{most_of}
use Rattle.resb.proofs.LaidSteps.{length-values}
use Rattle.resb.proofs.RowParents.{split, parent_more}
use Rattle.resb.proofs.LaidWords.{err_on}
use Rattle.resb.proofs.Rooms.{refused_heavy, refused_long}
use Rattle.resb.proofs.Refusals.{names_short, names_large, length-names, parent_deep}
use Rattle.resb.proofs.TreeKinds.{parent-Table}
use Rattle.resb.proofs.draft.Draft.table_under.Goals as goal

pub returns-in_err-kept : goal.returns-in_err-kept
returns-in_err-kept c =
    let d = c.args.self.now in
    let n : vec_len d.laying.items ≡ length d.laying.items.items = search rules in
    let m : vec_len d.levels ≡ length d.levels.items = search rules in
    let l = length-map c.args.keys.now (λ k. k.now) in
    err_on _ _ _ _ c.from_residual.ensures.1 (names_short d (bare c.args.keys.now) _ c.in_err-kept.ensures.err.0 (λ e. omega (arith, n, l, c.len.ensures, c.in_err-kept.ensures.err.1 (omega (arith, e, n, m, c.len.ensures, c.len-2.ensures)))))

pub returns-then-count-gt65535 : goal.returns-then-count-gt65535
returns-then-count-gt65535 c =
    let d = c.args.self.now in
    let n : vec_len d.laying.items ≡ length d.laying.items.items = search rules in
    let l = length-map c.args.keys.now (λ k. k.now) in
    let many : length (bare c.args.keys.now) ≤ most_unit → ⊥ = λ few. omega (arith, few, l, c.if-count-gt65535.true) in
    names_large d (bare c.args.keys.now) c.in_ok-kept.kept TooLarge (omega (arith, n, l, c.len.ensures, c.in_ok-kept.ensures.value))
    (λ keys row es e p k h. refused_long d keys (row ++ values_in es) row (r.Table es) (length (bare c.args.keys.now) ≤ most_unit) TooLarge h many (λ fits. omega (arith, fits.counts, p.entries)))

pub returns-in_err-level : goal.returns-in_err-level
returns-in_err-level c =
    let d = c.args.self.now in
    let names = bare c.args.keys.now in
    let n : vec_len d.laying.items ≡ length d.laying.items.items = search rules in
    err_on _ _ _ _ c.from_residual-in_err-level.ensures.1 (names_large d names c.in_ok-kept.kept _ (omega (arith, n, length-map c.args.keys.now (λ k. k.now), c.len.ensures, c.in_ok-kept.ensures.value))
    (λ keys row es e p k h. parent_deep d keys row (values_in es) (r.Table es) names c.in_ok-kept.kept _ p (split d keys row (values_in es) c.in_ok-kept.kept h k) (rw c.as_slice.ensures.value at c.in_err-level.ensures.err)))

pub returns-in_err-rest : goal.returns-in_err-rest
returns-in_err-rest c =
    let d = c.args.self.now in
    let names = bare c.args.keys.now in
    let n : vec_len d.laying.items ≡ length d.laying.items.items = search rules in
    err_on _ _ _ _ c.from_residual-in_err-rest.ensures.1 (names_large d names c.in_ok-kept.kept _ (omega (arith, n, length-map c.args.keys.now (λ k. k.now), c.len.ensures, c.in_ok-kept.ensures.value))
    (λ keys row es e p k h. refused_heavy d keys (row ++ values_in es) row (r.Table es) (sum_by length names) _ _ (omega (arith, p.weighs, sum_by-append weight row (values_in es))) h c.in_err-rest.ensures.err (λ words room. (words, omega arith))))

pub returns-in_err-left : goal.returns-in_err-left
returns-in_err-left c =
    let d = c.args.self.now in
    let names = bare c.args.keys.now in
    let n : vec_len d.laying.items ≡ length d.laying.items.items = search rules in
    err_on _ _ _ _ c.from_residual-in_err-left.ensures.1 (names_large d names c.in_ok-kept.kept _ (omega (arith, n, length-map c.args.keys.now (λ k. k.now), c.len.ensures, c.in_ok-kept.ensures.value))
    (λ keys row es e p k h. refused_heavy d keys (row ++ values_in es) row (r.Table es) (sum_by length names) _ _ (omega (arith, p.weighs, sum_by-append weight row (values_in es))) h c.in_err-left.ensures.err (λ words room. omega (arith, c.in_ok-rest.ensures.rest))))

pub returns-in_err-push : goal.returns-in_err-push
returns-in_err-push c = err_on _ _ _ _ c.from_residual-in_err-push.ensures.1 (record { short = λ keys row lt h. tt; large = λ keys row es e h. tt })

pub returns-in_err-push_places : goal.returns-in_err-push_places
returns-in_err-push_places c =
    let d = c.args.self.now in
    let n : vec_len d.laying.items ≡ length d.laying.items.items = search rules in
    err_on _ _ _ _ c.from_residual-in_err-push_places.ensures.1 (names_large d (bare c.args.keys.now) c.in_ok-kept.kept _ (omega (arith, n, length-map c.args.keys.now (λ k. k.now), c.len.ensures, c.in_ok-kept.ensures.value))
    (λ keys row es e p k h. refused_long d keys (row ++ values_in es) row (r.Table es) _ _ h c.in_err-push_places.ensures.err (λ fits. rw h.0 (omega (arith, fits.near, p.near (place_of keys))))))

pub returns-in_err-item : goal.returns-in_err-item
returns-in_err-item c =
    let d = c.args.self.now in
    let names = bare c.args.keys.now in
    let n : vec_len d.laying.items ≡ length d.laying.items.items = search rules in
    let l = length-map c.args.keys.now (λ k. k.now) in
    err_on _ _ _ _ c.from_residual-in_err-item.ensures.1 (names_large d names c.in_ok-kept.kept _ (omega (arith, n, l, c.len.ensures, c.in_ok-kept.ensures.value))
    (λ keys row es e p k h.
    let near : most_of (map (place_of keys) names) ≤ most_unit = rw h.0 at c.in_ok-push_places.ensures.bound in
    let units : c.push_places.new.units.items ≡ length c.args.keys.now ∷ map (place_of keys) names = rw (c.in_ok-push.ensures.items, c.clear.ensures.items, h.0) at c.in_ok-push_places.ensures.units in
    let count : length es ≡ length c.args.keys.now = omega (arith, l, length-names es names e, length-values es) in
    refused_long d keys (row ++ values_in es) row (r.Table es) _ _ h (c.in_err-item.ensures.lays (place_of keys) es _ (split d keys row (values_in es) c.in_ok-kept.kept h k).stands (rw e near) (rw (count, e) units)) (λ fits. fits)))

pub returns-in_err-put : goal.returns-in_err-put
returns-in_err-put c = err_on _ _ _ _ c.from_residual-in_err-put.ensures.1 (record { short = λ keys row lt h. tt; large = λ keys row es e h. tt })

pub returns : goal.returns
returns c =
    let d = c.args.self.now in
    let names = bare c.args.keys.now in
    let n : vec_len d.laying.items ≡ length d.laying.items.items = search rules in
    let l = length-map c.args.keys.now (λ k. k.now) in
    λ keys row es e good apart h.
    let near : most_of (map (place_of keys) names) ≤ most_unit = rw h.0 at c.in_ok-push_places.ensures.bound in
    let units : c.push_places.new.units.items ≡ length c.args.keys.now ∷ map (place_of keys) names = rw (c.in_ok-push.ensures.items, c.clear.ensures.items, h.0) at c.in_ok-push_places.ensures.units in
    let count : length es ≡ length c.args.keys.now = omega (arith, l, length-names es names e, length-values es) in
    let s = split d keys row (values_in es) c.in_ok-kept.kept h (omega (arith, n, count, length-values es, c.len.ensures, c.in_ok-kept.ensures.value)) in (
      h.0,
      rw (c.in_ok-put.ensures.items, c.in_ok-put.ensures.levels, c.in_ok-item.ensures.items, c.truncate.ensures.items)
          (parent_more d keys row (values_in es) (r.Table es) names c.in_ok-kept.kept c.push_table.new.laying.words.items c.in_ok-item.item c.in_ok-level.level c.in_ok-left.left c.max-self.result (rw e at (parent-Table es)) h s
          (c.in_ok-item.ensures.lays (place_of keys) es _ s.stands (rw e near) (rw (count, e) units)) (rw c.as_slice.ensures.value at c.in_ok-level.ensures.level) c.in_ok-level.ensures.bound (omega (arith, c.in_ok-left.ensures.rest, c.in_ok-rest.ensures.rest)) (omega (arith, l, c.max-self.ensures)) good apart),
    )
