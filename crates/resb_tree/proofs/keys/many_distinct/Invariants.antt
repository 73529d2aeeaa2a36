use Rattle.std.proofs.Common.{◌≡◌, ◌≤◌, List, ℕ, true, drop, length, Bor}
use Rattle.std.specs.List.{list_any}
use Rattle.std.specs.Str.{bytes_eq}
use Rattle.resb_tree.specs.Keys.{distinct, stands_in, keys_in}
use Rattle.resb_tree.proofs.keys.many_distinct.Given as goal

-- the entries from here on are distinct, and the set has their keys
abbrev pub invariant-loop-at : goal.invariant-loop-at
invariant-loop-at g l = record {
  within : l.at ≤ length l.entries;
  apart : distinct (keys_in (drop l.at l.entries)) ≡ true;
  has : (q : Bor (List ℕ)) → list_any (λ k. bytes_eq q.now k.now) l.later.keys ≡ stands_in q.now (keys_in (drop l.at l.entries));
}

abbrev pub decreases-loop-at : goal.decreases-loop-at
decreases-loop-at g l = l.at
