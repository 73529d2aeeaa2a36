use Rattle.std.proofs.Common.{◌≡◌, ◌≤◌, false, nat_lt, arith}
use Rattle.std.proofs.lemmas.Bool.{le-ltb}
use Rattle.std.specs.Duration.{as_nanos}
use Rattle.timeago.specs.Formatters.{settings_of, language_of}
use Rattle.timeago.specs.Words.{told_text}
use Rattle.timeago.specs.Inside.Steps.{counted}
use Rattle.timeago.proofs.Texts.{words_if, not_below}
use Rattle.timeago.proofs.formatter.Formatter.convert_into.Goals as goal

pub returns-clause-words : goal.returns-clause-words
returns-clause-words g c =
    let s = g.L.Language.speech (language_of c.args.self.now) in
    let f = settings_of c.args.self.now in
    let d = as_nanos c.args.d in
    let left = not_below _ _ _ c.is_above.ensures c.if-is_above.false in
    let within : d ≤ f.max_duration = omega arith in
    let not_high : nat_lt f.max_duration d ≡ false = le-ltb f.max_duration d within in
    (told_text s f (counted f f.items d), words_if s f d not_high, rw c.new-rest.ensures at c.in_ok-push_told.ensures.ok)
