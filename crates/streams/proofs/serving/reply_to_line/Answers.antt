use Rattle.std.proofs.Common.{ℕ, List, subst, ◌∙◌}
use Rattle.streams.proofs.ServeLemmas.{replies_kept}
use Rattle.streams.proofs.serving.reply_to_line.Goals as goal

pub returns-clause-reply : goal.returns-clause-reply
returns-clause-reply g c =
    let reply = g.A.Answer.reply c.args.engine.now in
    let (text, is, added) = c.in_ok-answer_into-2.ensures in
    let whole = subst (λ (line : List ℕ). g.A.Answer.reply c.args.engine.now line text) (c.bytes.ensures ∙ c.in_ok-keep.ensures) is in
    (text, replies_kept reply c.args.start.now c.args.bytes.now text (g.met.A.Answer.cuts_long_lines c.args.engine.now) whole, added)
