use Rattle.std.proofs.Common.{arith}
use Rattle.tell.specs.Inside.LoadTree.{zone_tree}
use Rattle.tell.proofs.LoadDraft.{grows, all_grown}
use Rattle.tell.proofs.large.tell_zones.Goals as goal

pub loop-number-preserved : goal.loop-number-preserved
loop-number-preserved c = grows zone_tree c.args.draft.now c.loop-number.draft c.tell_zone.new.draft c.loop-number.number c.loop-number.invariant c.in_ok-tell_zone.ensures

pub returns : goal.returns
returns c = all_grown zone_tree c.args.draft.now c.loop-number.draft c.array.new.self c.loop-number.number c.args.count (omega arith) c.loop-number.invariant c.in_ok-array.ensures
