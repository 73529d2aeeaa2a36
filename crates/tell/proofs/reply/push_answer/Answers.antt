use Rattle.tell.specs.Inside.FieldsView.{fields_view}
use Rattle.tell.proofs.FoundMoments.{answer_told, answer_refused}
use Rattle.tell.proofs.reply.push_answer.Goals as goal

pub returns-in_ok-push_moment-in-Ok : goal.returns-in_ok-push_moment-in-Ok
returns-in_ok-push_moment-in-Ok c =
    answer_told _ (fields_view c.in-Some.fields) _ _ c.in-Some.ensures c.in-Ok.moment _ _
    (c.in-Ok.ensures.found c.args.zones.now c.get.ensures) c.in_ok-push_moment-in-Ok.ensures

pub returns-in_ok-push_refusal-in-Err : goal.returns-in_ok-push_refusal-in-Err
returns-in_ok-push_refusal-in-Err c =
    answer_refused _ (fields_view c.in-Some.fields) _ _ c.in-Some.ensures _ _ _
    (c.in-Err.ensures.found c.args.zones.now c.get.ensures) c.in_ok-push_refusal-in-Err.ensures
