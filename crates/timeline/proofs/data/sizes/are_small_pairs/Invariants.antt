use Rattle.std.proofs.Common.{ℕ, ◌<◌, get_or, ℤ, ◌+ℤ◌}
use Rattle.timeline.specs.TableLaws.{IsSmall}
use Rattle.timeline.proofs.data.sizes.are_small_pairs.Given as goal

abbrev pub invariant-loop-pair : goal.invariant-loop-pair
invariant-loop-pair l = (k : ℕ) (d : ℤ × ℤ) → k < l.pair-index → IsSmall ((get_or l.pairs k d).0 +ℤ (get_or l.pairs k d).1)
