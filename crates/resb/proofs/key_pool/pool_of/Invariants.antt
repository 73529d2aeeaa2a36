use Rattle.std.proofs.Common.{◌≡◌, ℕ, List, drop, []}
use Rattle.std.specs.BTreeMap.{get_by}
use Rattle.std.specs.Cmp.Lexicographic.{slice_cmp}
use Rattle.std.specs.Ordering.{nat_cmp}
use Rattle.resb.specs.Pool.{bare}
use Rattle.resb.specs.Inside.Pooling.{place_told, pooled, pool_end}
use Rattle.resb.proofs.key_pool.pool_of.Given as goal

abbrev pub invariant-loop-key : goal.invariant-loop-key
invariant-loop-key l = record {
  told : (key : List ℕ) → get_by (λ k. slice_cmp nat_cmp key k.now) l.pool.1.0 ≡ place_told (bare l.pool.0.items) key;
  ends : l.pool.1.1.0 ≡ pool_end (bare l.pool.0.items);
  so_far : pooled (bare l.pool.0.items) (bare (drop l.key-index l.met)) ≡ pooled [] (bare l.met);
}
