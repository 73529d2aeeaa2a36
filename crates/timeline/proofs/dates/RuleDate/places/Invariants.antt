use Rattle.std.proofs.Common.{◌≡◌, ℕ, ◌<◌, get_or, length, pos}
use Rattle.timeline.specs.Kinds.{place_in_kind}
use Rattle.timeline.specs.DateView.{plain_date}
use Rattle.timeline.proofs.dates.RuleDate.places.Given as goal

abbrev pub invariant-loop-kind : goal.invariant-loop-kind
invariant-loop-kind l = record {
  len : length l.places ≡ 14;
  done : (k : ℕ) → k < l.kind → get_or l.places k (pos 0) ≡ place_in_kind (plain_date l.self) k;
}
