use Rattle.std.proofs.Common.{ℕ, ◌<◌, ◌≤◌, All, get_or}
use Rattle.zoneinfo64.proofs.fields.largest.Given as goal

-- none so far is larger, and a length that all are below is above it
abbrev pub invariant-loop-number : goal.invariant-loop-number
invariant-loop-number l = record {
  bound : (k d : ℕ) → k < l.number-index → get_or l.numbers k d ≤ l.largest;
  least : (len : ℕ) → 0 < len → All (λ n. n < len) l.numbers → l.largest < len;
}
