use Rattle.std.proofs.Common.{sym}
use Rattle.timeago.specs.Formatters.{settings_of, language_of}
use Rattle.timeago.proofs.Texts.{told_all, told_none, in_pieces}
use Rattle.timeago.proofs.formatter.Formatter.push_told.Goals as goal

pub returns-then-tells_nothing-clause-ok : goal.returns-then-tells_nothing-clause-ok
returns-then-tells_nothing-clause-ok g c =
    rw (told_none (settings_of c.args.self.now) c.args.rest (sym c.if-tells_nothing.ensures)) c.in_ok-push_low.ensures.ok

pub returns-clause-ok : goal.returns-clause-ok
returns-clause-ok g c =
    rw (told_all (g.L.Language.speech (language_of c.args.self.now)) (settings_of c.args.self.now) c.args.rest (sym c.if-tells_nothing.ensures))
    (in_pieces _ _ _ _ _ _ _ c.in_ok-push_past_before.ensures.ok c.in_ok-push_chunks.ensures.ok c.in_ok-push_past_behind.ensures.ok)
