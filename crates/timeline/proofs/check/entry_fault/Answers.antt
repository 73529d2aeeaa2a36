use Rattle.std.proofs.Common.{rules}
use Rattle.timeline.specs.Inside.EntryLaws.{EntryKeeps}
use Rattle.timeline.proofs.LeastFaults.{size_broken, near_broken, walls_broken, seam_broken, all_kept}
use Rattle.timeline.proofs.check.entry_fault.Goals as goal

pub returns-then-not-is_small : goal.returns-then-not-is_small
returns-then-not-is_small c = size_broken (EntryKeeps c.args.early c.args.late c.args.previous c.args.walls c.args.after c.args.limit) (search rules) (search rules) (search rules)

pub returns-then-not-is_near : goal.returns-then-not-is_near
returns-then-not-is_near c = near_broken (EntryKeeps c.args.early c.args.late c.args.previous c.args.walls c.args.after c.args.limit) (search rules) (search rules) (search rules) (search rules)

pub returns-then-not-is_walled : goal.returns-then-not-is_walled
returns-then-not-is_walled c = walls_broken (EntryKeeps c.args.early c.args.late c.args.previous c.args.walls c.args.after c.args.limit) (search rules) (search rules) (search rules) (search rules) (search rules)

pub returns-then-not-is_before : goal.returns-then-not-is_before
returns-then-not-is_before c = seam_broken (EntryKeeps c.args.early c.args.late c.args.previous c.args.walls c.args.after c.args.limit) (search rules) (search rules) (search rules) (search rules) (search rules) (search rules)

pub returns : goal.returns
returns c = all_kept (EntryKeeps c.args.early c.args.late c.args.previous c.args.walls c.args.after c.args.limit) (search rules) (search rules) (search rules) (search rules) (search rules) (search rules) tt tt
