use Rattle.zoneinfo64.proofs.TextOrder.{text-keeps-order}
use Rattle.zoneinfo64.proofs.laws.text_keeps_order.Goals as goal

pub returns : goal.returns
returns c = text-keeps-order
