use Rattle.std.proofs.Common.{◌≡◌, ◌+◌, ◌-◌, ◌/◌, Some, sym, ap, refl, ◌∙◌, arith}
use Rattle.std.specs.List.{slice_get}
use Rattle.std.specs.Ordering.{nat_cmp}
use Rattle.std.specs.declared.cmp.Ordering.TheVariants.{Less, Equal, Greater}
use Rattle.std.specs.Cmp.Lexicographic.{slice_cmp}
use Rattle.zoneinfo64.specs.NamedZone.{name_text}
use Rattle.std.proofs.lemmas.Option.{slice_get_read}
use Rattle.zoneinfo64.specs.declared.zone.Named.{Named}
use Rattle.zoneinfo64.proofs.Names.{below-all, above-all, found-is, missing-is}
use Rattle.zoneinfo64.proofs.zone.place_by_halves.Goals as goal

pub loop-low-preserved-in-Less : goal.loop-low-preserved-in-Less
loop-low-preserved-in-Less c =
    let middle = c.loop-low.low + (c.loop-low.high - c.loop-low.low) / 2 in
    let e = c.index-entries-middle.result in
    let at : slice_get c.args.entries.now middle ≡ Some e = slice_get_read c.args.entries.now _ middle e refl (omega arith) c.index-entries-middle.is in
    let text : c.text.result.now ≡ name_text e.name = c.text.ensures ∙ ap (λ (x : Named). name_text x.name) (sym c.index-entries-middle.is) in
    let less : slice_cmp nat_cmp (name_text e.name) c.args.iana.now ≡ Less = sym (c.in-Less.ensures ∙ ap (λ t. slice_cmp nat_cmp t c.args.iana.now) text) in
    record {
      within = c.loop-low.invariant.within;
      below = λ k f at_k lt. below-all _ c.requires _ middle e at less k f at_k lt;
      above = c.loop-low.invariant.above;
    }

pub returns-in-Equal : goal.returns-in-Equal
returns-in-Equal c =
    let middle = c.loop-low.low + (c.loop-low.high - c.loop-low.low) / 2 in
    let e = c.index-entries-middle.result in
    let at : slice_get c.args.entries.now middle ≡ Some e = slice_get_read c.args.entries.now _ middle e refl (omega arith) c.index-entries-middle.is in
    let text : c.text.result.now ≡ name_text e.name = c.text.ensures ∙ ap (λ (x : Named). name_text x.name) (sym c.index-entries-middle.is) in
    let equal : slice_cmp nat_cmp (name_text e.name) c.args.iana.now ≡ Equal = sym (c.in-Equal.ensures ∙ ap (λ t. slice_cmp nat_cmp t c.args.iana.now) text) in
    sym (found-is _ c.requires _ middle e at equal)

pub loop-low-preserved : goal.loop-low-preserved
loop-low-preserved c =
    let middle = c.loop-low.low + (c.loop-low.high - c.loop-low.low) / 2 in
    let e = c.index-entries-middle.result in
    let at : slice_get c.args.entries.now middle ≡ Some e = slice_get_read c.args.entries.now _ middle e refl (omega arith) c.index-entries-middle.is in
    let text : c.text.result.now ≡ name_text e.name = c.text.ensures ∙ ap (λ (x : Named). name_text x.name) (sym c.index-entries-middle.is) in
    let greater : slice_cmp nat_cmp (name_text e.name) c.args.iana.now ≡ Greater = sym (c.in-Greater.ensures ∙ ap (λ t. slice_cmp nat_cmp t c.args.iana.now) text) in
    record {
      within = omega arith;
      below = c.loop-low.invariant.below;
      above = λ k f at_k le. above-all _ c.requires _ middle e at greater k f at_k le;
    }

pub returns : goal.returns
returns c =
    sym (missing-is _ _ c.loop-low.low c.loop-low.invariant.below (λ k e at_k le. c.loop-low.invariant.above k e at_k (omega arith)))
