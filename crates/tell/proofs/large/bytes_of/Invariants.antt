use Rattle.std.proofs.Common.{◌≡◌, ◌≤◌, ◌+◌, ◌-◌, ◌*◌, ◌++◌, List, ℕ, take, length, vec_len}
use Rattle.std.specs.Prelude.{vec_capacity}
use Rattle.tell.specs.BundleZones.{words_of}
use Rattle.tell.proofs.large.bytes_of.Given as goal

-- the words of the bytes so far are those that were gone through, whatever bytes follow, and there is room for the rest
abbrev pub invariant-loop-word : goal.invariant-loop-word
invariant-loop-word l = record {
  gone : (tail : List ℕ) → words_of (l.bytes.items ++ tail) ≡ take l.word-index l.words ++ words_of tail;
  room : vec_len l.bytes + 4 * (length l.words - l.word-index) ≤ vec_capacity l.bytes;
}
