-- How few looks find a place by halving: each leaves at most half of what was left.
use Rattle.std.proofs.Common.{◌≡◌, ℕ, suc, ◌+◌, ◌-◌, ◌*◌, ◌^◌, ◌<◌, ◌≤◌, ap, ◌∙◌, arith}
use Rattle.std.proofs.Math.Nat.{mul_assoc, pow-suc, mul-le-mul_left, le-mul_of_pos_right}

-- `left` of n entries are left after the steps from `old` to `new`
pub record AreLeft (old new left n : ℕ) : Type 0 where
  pub taken : old ≤ new
  pub narrow : 2 ^ (new - old) * left ≤ n
  pub few : 2 ^ (new - old) ≤ 2 * n + 1

pub none_taken : (old left n : ℕ) → left ≡ n → AreLeft old old left n
none_taken old left n all =
    let none : old - old ≡ 0 = omega arith in
    record { taken = omega arith; narrow = rw none (omega (arith, all)); few = rw none (omega arith) }

-- one look more
pub halved : (old new left less n : ℕ) → 0 < left → 2 * less ≤ left → AreLeft old new left n → AreLeft old (new + 1) less n
halved old new left less n some half h =
    let q = 2 ^ (new - old) in
    let taken = h.taken in
    let next : new + 1 - old ≡ suc (new - old) = omega arith in
    let twice : 2 ^ (new + 1 - old) ≡ q * 2 = ap (λ k. 2 ^ k) next ∙ pow-suc 2 (new - old) in
    let narrow = h.narrow in
    let within : q * (2 * less) ≤ q * left = mul-le-mul_left q half in
    let same : q * 2 * less ≡ q * (2 * less) = mul_assoc q 2 less in
    let whole : q ≤ q * left = le-mul_of_pos_right q some in
    record {
      taken = omega (arith, taken);
      narrow = rw twice (omega (arith, same, within, narrow));
      few = rw twice (omega (arith, whole, narrow));
    }
