use Rattle.std.specs.Duration.{as_nanos}
use Rattle.timeago.specs.Formatters.{settings_of, language_of}
use Rattle.timeago.proofs.Sums.{tells_added}
use Rattle.timeago.proofs.formatter.Formatter.convert.Goals as goal

pub returns-clause-bound : goal.returns-clause-bound
returns-clause-bound g c =
    tells_added (g.L.Language.speech (language_of c.args.self.now)) (settings_of c.args.self.now) (as_nanos c.args.d) _ _ c.new-text.ensures.bytes c.in_ok-convert_into.ensures.words
