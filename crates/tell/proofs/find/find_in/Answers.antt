use Rattle.std.proofs.Common.{◌≡◌, sym, subst, refl, true, false, to_z-of_z, FitsSigned, w64, rules}
use Rattle.tell.specs.Inside.FieldsView.{fields_view}
use Rattle.tell.specs.Moments.{IsBase}
use Rattle.tell.proofs.FoundMoments.{base_found, fault_found, moment_found}
use Rattle.tell.proofs.find.find_in.Goals as goal

pub returns-then-not-is_base-clause-found : goal.returns-then-not-is_base-clause-found
returns-then-not-is_base-clause-found c =
    let fits : FitsSigned w64 c.args.fields.now.base = search rules in
    base_found _ (fields_view c.args.fields.now)
    (λ is. let never : false ≡ true = c.if-not-is_base.ensures.1 (subst IsBase (sym (to_z-of_z fits)) is) in cc)

pub returns-in-Err-clause-found : goal.returns-in-Err-clause-found
returns-in-Err-clause-found c =
    let fits : FitsSigned w64 c.args.fields.now.base = search rules in
    fault_found c.laws_below.ensures (fields_view c.args.fields.now) _ (to_z-of_z fits)
    (subst IsBase (to_z-of_z fits) (c.if-not-is_base.ensures.0 refl)) _ c.in-Err.fault c.in-Err.ensures.said

pub returns-in-Ok-clause-found : goal.returns-in-Ok-clause-found
returns-in-Ok-clause-found c =
    let fits : FitsSigned w64 c.args.fields.now.base = search rules in
    moment_found c.laws_below.ensures (fields_view c.args.fields.now) _ (to_z-of_z fits)
    (subst IsBase (to_z-of_z fits) (c.if-not-is_base.ensures.0 refl)) _ c.in-Ok.moment c.in-Ok.ensures.said
