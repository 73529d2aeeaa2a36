use Rattle.timeago.proofs.DefaultTexts.{one_count_list}
use Rattle.timeago.proofs.laws.one_count_list.Goals as goal

pub returns : goal.returns
returns c = one_count_list
