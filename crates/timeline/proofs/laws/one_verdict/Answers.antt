use Rattle.timeline.proofs.Verdicts.{not_both, one_least, kept}
use Rattle.timeline.proofs.laws.one_verdict.Goals as goal

pub returns : goal.returns
returns c = record {
  not_both = not_both;
  one_least = one_least;
  all_kept = λ z lawful k f is. kept z f lawful;
}
