use Rattle.std.proofs.Common.{◌≡◌, ℕ, List, [], ◌++◌, ap, subst, sym, ◌∙◌}
use Rattle.std.proofs.KnownBytes.{Appends-nil}
use Rattle.streams.specs.Inside.Serving.{LeadsOn, LeadsPartly}
use Rattle.streams.proofs.ServeLemmas.{gained_on_err, leads_partly, leads_silently}
use Rattle.streams.proofs.serving.serve_piece.Goals as goal

pub returns-in_err-reply_to_piece-clause-err : goal.returns-in_err-reply_to_piece-clause-err
returns-in_err-reply_to_piece-clause-err g c =
    let reply = g.A.Answer.reply c.args.engine.now in
    let start = c.args.start.now in
    let piece = c.args.piece.now in
    gained_on_err _ (LeadsPartly reply start piece) _ _ [] (leads_silently reply start piece) (Appends-nil _)

pub returns-in_err-write_all-clause-err : goal.returns-in_err-write_all-clause-err
returns-in_err-write_all-clause-err g c =
    let reply = g.A.Answer.reply c.args.engine.now in
    let start = c.args.start.now in
    let later = c.reply_to_piece.new.start in
    let piece = c.args.piece.now in
    let (added, leads, added_is) = c.in_ok-reply_to_piece.ensures in
    let (gained, wrote, (rest, split)) = c.in_err-write_all.ensures.written in
    let all : added ≡ gained ++ rest = sym (c.as_bytes.ensures.value ∙ added_is ∙ ap (λ (l : List ℕ). l ++ added) c.clear.ensures.bytes) ∙ split in
    let partly = leads_partly reply start later piece gained rest (subst (λ (l : List ℕ). LeadsOn reply start later piece l) all leads) in
    gained_on_err _ (LeadsPartly reply start piece) _ _ gained partly wrote
