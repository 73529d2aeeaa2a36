use Rattle.resb_tree.specs.BodyView.{told}
use Rattle.resb_tree.proofs.Checks.{met_more}
use Rattle.resb_tree.proofs.checker.Checker.key.Goals as goal

pub invariant_of-self : goal.invariant_of-self
invariant_of-self c = (met_more (told c.self.inside.body) c.self.inside.slots.items _ c.args.place _ c.self.invariant.0 c.in_ok-len.ensures.value, c.self.invariant.1)
