use Rattle.std.proofs.Common.{◌≡◌, ◌≤◌, ◌+◌, ◌/◌, ◌++◌, length, vec_len}
use Rattle.std.specs.Prelude.{vec_capacity}
use Rattle.tell.specs.BundleZones.{words_of}
use Rattle.tell.proofs.bundle.words.Given as goal

abbrev pub invariant-packing : goal.invariant-packing
invariant-packing l = record {
  packed : l.words.items ++ words_of l.rest ≡ words_of l.bytes;
  room : vec_len l.words + length l.rest / 4 ≤ vec_capacity l.words;
}

abbrev pub decreases-packing : goal.decreases-packing
decreases-packing l = length l.rest
