use Rattle.std.proofs.Common.{◌≡◌, ℕ, List, [], ◌++◌, string_bytes, subst, sym, ◌∙◌}
use Rattle.std.specs.Io.KnownBytes.{Appends}
use Rattle.std.proofs.KnownBytes.{Appends-nil}
use Rattle.streams.specs.Inside.Serving.{LeadsToEnd, LeadsPartlyToEnd}
use Rattle.streams.proofs.ServeLemmas.{gained_on_err, none_kept, some_kept, ends_with_line, ends_without_line, ends_partly, ends_silently}
use Rattle.streams.proofs.serving.serve_last.Goals as goal

pub returns-then-is_empty-clause-ok : goal.returns-then-is_empty-clause-ok
returns-then-is_empty-clause-ok g c =
    ([], ends_without_line (g.A.Answer.reply c.args.engine.now) c.args.start.now (none_kept c.args.start.now c.if-is_empty.ensures), Appends-nil _)

pub returns-in_err-reply-clause-err : goal.returns-in_err-reply-clause-err
returns-in_err-reply-clause-err g c =
    let reply = g.A.Answer.reply c.args.engine.now in
    let start = c.args.start.now in
    gained_on_err _ (LeadsPartlyToEnd reply start) _ _ [] (ends_silently reply start) (Appends-nil _)

pub returns-in_err-write_all-clause-err : goal.returns-in_err-write_all-clause-err
returns-in_err-write_all-clause-err g c =
    let reply = g.A.Answer.reply c.args.engine.now in
    let start = c.args.start.now in
    let text = string_bytes c.in_ok-reply.reply in
    let (gained, wrote, (rest, split)) = c.in_err-write_all.ensures.written in
    let here = subst (λ (line : List ℕ). g.A.Answer.reply c.args.engine.now line text) c.bytes.ensures c.in_ok-reply.ensures in
    let ends = ends_with_line reply start text (g.met.A.Answer.cuts_long_lines c.args.engine.now) (some_kept start c.if-is_empty.ensures) here in
    let all : text ≡ gained ++ rest = sym c.as_bytes.ensures.value ∙ split in
    let partly = ends_partly reply start gained rest (subst (λ (l : List ℕ). LeadsToEnd reply start l) all ends) in
    gained_on_err _ (LeadsPartlyToEnd reply start) _ _ gained partly wrote

pub returns-clause-ok : goal.returns-clause-ok
returns-clause-ok g c =
    let start = c.args.start.now in
    let text = string_bytes c.in_ok-reply.reply in
    let here = subst (λ (line : List ℕ). g.A.Answer.reply c.args.engine.now line text) c.bytes.ensures c.in_ok-reply.ensures in (
      text,
      ends_with_line (g.A.Answer.reply c.args.engine.now) start text (g.met.A.Answer.cuts_long_lines c.args.engine.now) (some_kept start c.if-is_empty.ensures) here,
      subst (Appends _ _) c.as_bytes.ensures.value c.in_ok-write_all.ensures.ok,
    )
