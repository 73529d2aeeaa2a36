use Rattle.std.proofs.Common.{rules, ◌≡◌, ◌∙◌, ◌+◌, ◌-◌, ◌∷◌, length, sym, arith}
use Rattle.std.specs.Prelude.{map, vec_len}
use Rattle.std.proofs.lemmas.Bool.{leb-true, leb-false}
use Rattle.std.proofs.lemmas.List.{length-map}
use Rattle.resb_tree.specs.declared.resource.Resource.TheVariants as r
use Rattle.resb_tree.specs.Keys.{keys_in}
use Rattle.resb.specs.Entries.{values_in}
use Rattle.resb.specs.Packing.{pack_units}
use Rattle.resb.proofs.LaidParents.{count_is, empty_table, behind, room_behind}
use Rattle.resb.proofs.LaidWords.{err_on}
use Rattle.resb.proofs.LaidSteps.{length-values}
use Rattle.resb.proofs.TreeKinds.{parent-Table, table_over, length-own}
use Rattle.resb.proofs.parents.push_table.Goals as goal

pub returns-then-count-eq0-clause-lays : goal.returns-then-count-eq0-clause-lays
returns-then-count-eq0-clause-lays c =
    let n : vec_len c.args.laying.now.items ≡ length c.args.laying.now.items.items = search rules in
    λ places es old s near u.
    let k = count_is (values_in es) places c.args.base old _ c.args.laying.now.items.items c.args.kept 0 s (omega (arith, n, c.len.ensures)) in
    empty_table es places c.args.base old _ _ (omega (arith, k, length-values es)) s

pub returns-then-count-gt65535-clause-lays : goal.returns-then-count-gt65535-clause-lays
returns-then-count-gt65535-clause-lays c =
    let n : vec_len c.args.laying.now.items ≡ length c.args.laying.now.items.items = search rules in
    λ places es old s near u fits.
    let k = count_is (values_in es) places c.args.base old _ c.args.laying.now.items.items c.args.kept (c.len.result - c.args.kept) s (omega (arith, n, c.len.ensures)) in
    omega (arith, k, length-values es, fits.counts, (parent-Table es).entries, length-map es (λ e. e.0), c.if-count-gt65535.true)

pub returns-then-not-has_room-clause-lays : goal.returns-then-not-has_room-clause-lays
returns-then-not-has_room-clause-lays c =
    let n : vec_len c.args.laying.now.items ≡ length c.args.laying.now.items.items = search rules in
    let full = leb-false _ _ (sym c.has_room.ensures ∙ c.if-not-has_room.true) in
    λ places es old s near u fits.
    let k = count_is (values_in es) places c.args.base old _ c.args.laying.now.items.items c.args.kept (c.len.result - c.args.kept) s (omega (arith, n, c.len.ensures)) in
    let own = pack_units (length es ∷ map places (keys_in es)) in
    omega (arith, k, full, length-values es, length-own es places, room_behind (r.Table es) (values_in es) places own 536870912 c.args.base old c.args.laying.now.words.items _ (table_over es places (omega (arith, k, length-values es))) s fits)

pub returns-in_err-push_units-clause-lays : goal.returns-in_err-push_units-clause-lays
returns-in_err-push_units-clause-lays c = λ places es old s near u. err_on _ _ _ _ c.from_residual.ensures.1 tt

pub returns-in_err-unstack-clause-lays : goal.returns-in_err-unstack-clause-lays
returns-in_err-unstack-clause-lays c = λ places es old s near u. err_on _ _ _ _ c.from_residual-in_err-unstack.ensures.1 tt

pub returns-clause-lays : goal.returns-clause-lays
returns-clause-lays c =
    let n : vec_len c.args.laying.now.items ≡ length c.args.laying.now.items.items = search rules in
    let w : vec_len c.args.laying.now.words ≡ length c.args.laying.now.words.items = search rules in
    let room = leb-true _ _ (sym c.has_room.ensures ∙ c.if-not-has_room.false) in
    λ places es old s near u.
    let k = count_is (values_in es) places c.args.base old _ c.args.laying.now.items.items c.args.kept (c.len.result - c.args.kept) s (omega (arith, n, c.len.ensures)) in
    let own = pack_units (length es ∷ map places (keys_in es)) in
    behind (r.Table es) (values_in es) (keys_in es) places own 536870912 c.args.base old _ _ _ _ (536870912 + (c.args.base + c.len-2.result)) (parent-Table es) (table_over es places (omega (arith, k, length-values es)))
    (omega (arith, k, length-values es, length-map es (λ e. e.0))) near s (rw (← u, ← c.as_slice.ensures.value) c.in_ok-push_units.ensures) c.in_ok-unstack.ensures.words (omega (arith, w, c.len-2.ensures)) (omega (arith, k, room, length-values es, length-own es places))
