use Rattle.std.proofs.Common.{◌+◌, ◌*◌}
use Rattle.resb_tree.proofs.tests_in_place.+alike.Given as goal

abbrev pub decreases-same : goal.decreases-same
decreases-same l = 2 * l.levels

abbrev pub decreases-same_items : goal.decreases-same_items
decreases-same_items l = 2 * l.levels + 1

abbrev pub decreases-same_entries : goal.decreases-same_entries
decreases-same_entries l = 2 * l.levels + 1
