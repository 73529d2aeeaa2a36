use Rattle.std.proofs.Common.{◌≢◌, ◌<◌, length, pos, sym, ◌∙◌, refl, below_more, to_z, of_z, to_z-of_z, FitsSigned, w16, w32, rules, arith}
use Rattle.std.proofs.lemmas.List.{get_or-set_same, get_or-set_other, length-set}
use Rattle.std.proofs.lemmas.List.FromFn.{fill_by_all}
use Rattle.timeline.specs.Kinds.{place_in_kind}
use Rattle.timeline.specs.Inside.KeptRules.{places_of}
use Rattle.timeline.specs.DateView.{plain_date}
use Rattle.timeline.proofs.dates.RuleDate.places.Goals as goal

pub loop-kind-preserved : goal.loop-kind-preserved
loop-kind-preserved c = record {
  len = simp length-set c.loop-kind.invariant.len;
  done = below_more _ _
      (λ k h. let other : k ≢ c.loop-kind.kind = omega arith in rw get_or-set_other (c.loop-kind.invariant.done k h))
      (let inside : c.loop-kind.kind < length c.loop-kind.places = omega (arith, c.loop-kind.invariant.len) in
      let day : FitsSigned w32 c.args.self.day = search rules in
      let narrow : FitsSigned w16 c.place.result = search rules in
      let value = c.place.ensures (plain_date c.args.self) refl (sym (to_z-of_z day)) refl in
      get_or-set_same c.loop-kind.places c.loop-kind.kind (to_z w16 (of_z w16 c.place.result)) (pos 0) inside ∙ to_z-of_z narrow ∙ value);
}

pub returns : goal.returns
unfolding places_of
returns c = fill_by_all (place_in_kind (plain_date c.args.self)) c.loop-kind.places 14 (pos 0) c.loop-kind.invariant.len (λ k h. c.loop-kind.invariant.done k (omega arith))
