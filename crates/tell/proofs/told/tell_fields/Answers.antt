use Rattle.tell.specs.Inside.FieldsView.{fields_view}
use Rattle.tell.proofs.FoundMoments.{error_told}
use Rattle.tell.proofs.told.tell_fields.Goals as goal

pub returns-in-Err : goal.returns-in-Err
returns-in-Err g c = error_told _ (fields_view c.args.fields.now) c.in-Err.error _ (c.in-Err.ensures.found c.args.info.now c.checked-checked.ensures)

pub returns-in-Ok-tell_moment : goal.returns-in-Ok-tell_moment
returns-in-Ok-tell_moment g c =
    let (z, has, lawful, _, replied) = c.in-Ok.ensures.found c.args.info.now c.checked-checked.ensures in
    let offset = c.offset_there-offset.ensures c.args.info.now _ z c.checked-checked.ensures has lawful in
    replied _ _ (c.in-Ok-tell_moment.ensures z offset)
