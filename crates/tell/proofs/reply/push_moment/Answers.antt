use Rattle.tell.proofs.MomentTexts.{moment_text}
use Rattle.tell.proofs.reply.push_moment.Goals as goal

pub returns : goal.returns
returns c =
    let lead = c.lead_from-lead.ensures in
    moment_text _ _ c.args.moment.now _ _ _ _ _ lead.ahead lead.distance c.in_ok-push_front.ensures c.in_ok-push_told.ensures
