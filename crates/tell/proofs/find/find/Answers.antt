use Rattle.tell.specs.Inside.FieldsView.{fields_view}
use Rattle.tell.proofs.FoundMoments.{unknown_found, unlawful_found, zone_found}
use Rattle.tell.proofs.find.find.Goals as goal

pub returns-in_default-clause-found : goal.returns-in_default-clause-found
returns-in_default-clause-found c = λ zones checked. unknown_found zones (fields_view c.args.fields.now) (rw c.in_default.is at checked)

pub returns-in-Ok-clause-found : goal.returns-in-Ok-clause-found
returns-in-Ok-clause-found c = λ zones checked.
    zone_found zones (fields_view c.args.fields.now) c.in-Ok.zone _ (rw c.in-Ok.is at (rw c.in-Some.is at checked)) c.find_in.ensures.found

pub returns-in-Err-clause-found : goal.returns-in-Err-clause-found
returns-in-Err-clause-found c = λ zones checked.
    unlawful_found zones (fields_view c.args.fields.now) c.in-Err.fault (rw c.in-Err.is at (rw c.in-Some.is at checked))
