use Rattle.streams.proofs.ServeLemmas.{one_report}
use Rattle.streams.proofs.laws.one_report_of.Goals as goal

pub returns : goal.returns
returns g c = one_report (g.A.Answer.reply c.args.engine.now)
