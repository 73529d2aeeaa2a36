use Rattle.zoneinfo64.proofs.NameOrder.{names-keep-order}
use Rattle.zoneinfo64.proofs.laws.names_keep_order.Goals as goal

pub returns : goal.returns
returns c = names-keep-order
