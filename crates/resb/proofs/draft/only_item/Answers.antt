use Rattle.std.proofs.Common.{arith}
use Rattle.resb.proofs.LaidSteps.{one_item}
use Rattle.resb.proofs.draft.only_item.Goals as goal

pub returns-then-items-eq1-clause-item : goal.returns-then-items-eq1-clause-item
returns-then-items-eq1-clause-item c = one_item c.args.items.now (omega arith) (omega arith)
