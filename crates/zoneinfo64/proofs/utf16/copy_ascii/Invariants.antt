use Rattle.std.proofs.Common.{◌≡◌, ℕ, ◌<◌, ◌≤◌, get_or, length, take}
use Rattle.zoneinfo64.proofs.utf16.copy_ascii.Given as goal

-- no unit so far is greater, and where the greatest is in ASCII they were copied
abbrev pub invariant-loop-at : goal.invariant-loop-at
invariant-loop-at l = record {
  wide : length l.units ≡ 32;
  narrow : length l.bytes ≡ 32;
  bound : (k d : ℕ) → k < l.at → get_or l.units k d ≤ l.greatest;
  same : l.greatest < 128 → take l.at l.bytes ≡ take l.at l.units;
}
