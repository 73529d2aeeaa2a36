use Rattle.std.proofs.Common.{arith}
use Rattle.tell.specs.Inside.LoadTree.{region_tree}
use Rattle.tell.proofs.LoadDraft.{grows, all_grown}
use Rattle.tell.proofs.large.tell_regions.Goals as goal

pub loop-number-preserved : goal.loop-number-preserved
loop-number-preserved c = grows region_tree c.args.draft.now c.loop-number.draft c.text.new.self c.loop-number._number c.loop-number.invariant c.in_ok-text.ensures

pub returns : goal.returns
returns c = all_grown region_tree c.args.draft.now c.loop-number.draft c.array.new.self c.loop-number._number c.args.count (omega arith) c.loop-number.invariant c.in_ok-array.ensures
