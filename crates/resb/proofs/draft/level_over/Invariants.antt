use Rattle.std.proofs.Common.{◌≡◌, drop, max}
use Rattle.resb.specs.WrittenFiles.{most_of}
use Rattle.resb.proofs.draft.level_over.Given as goal

abbrev pub invariant-loop-level : goal.invariant-loop-level
invariant-loop-level l = max l.deepest (most_of (drop l.level-index l.levels)) ≡ most_of l.levels
