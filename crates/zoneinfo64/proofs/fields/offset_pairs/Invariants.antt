use Rattle.std.proofs.Common.{◌≡◌, IsTrue, length}
use Rattle.timeline.specs.Table.{sums_fit}
use Rattle.zoneinfo64.specs.Inside.ListSteps.{with_front}
use Rattle.zoneinfo64.specs.ZoneLists.{offset_pairs}
use Rattle.zoneinfo64.proofs.fields.offset_pairs.Given as goal

-- the pairs so far, and then those of the rest, are those of all words; and each of them fits
abbrev pub invariant-loop-rest : goal.invariant-loop-rest
invariant-loop-rest l = record {
  whole : with_front l.pairs.items (offset_pairs l.rest) ≡ offset_pairs l.words;
  fit : IsTrue (sums_fit l.pairs.items);
}

abbrev pub decreases-loop-rest : goal.decreases-loop-rest
decreases-loop-rest l = length l.rest
