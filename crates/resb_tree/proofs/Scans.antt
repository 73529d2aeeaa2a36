-- Looking for a zero value, one place after the other.
use Rattle.std.proofs.Common.{◌≡◌, ℕ, suc, ◌+◌, ◌-◌, ◌*◌, ◌<◌, ◌≤◌, cond, eqb, ltb, Some, None, refl, arith}
use Rattle.std.proofs.lemmas.Bool.Decides.{nat_tests}
use Rattle.resb_tree.specs.Inside.Spans.{zero_from, key_stop}

pub zero_next : (unit : ℕ → ℕ) (i end : ℕ) → i < end → zero_from unit i (end - i) ≡ cond (eqb (unit i) 0) (Some i) (zero_from unit (i + 1) (end - (i + 1)))
unfolding zero_from
zero_next unit i end lt = let k : end - i ≡ suc (end - (i + 1)) = omega arith in rw k refl

pub zero_never : (unit : ℕ → ℕ) (i end : ℕ) → end ≤ i → zero_from unit i (end - i) ≡ None
unfolding zero_from
zero_never unit i end le = let k : end - i ≡ 0 = omega arith in rw k refl

-- the two units of a word
pub zero_words : (unit : ℕ → ℕ) (at end : ℕ) → 2 * at + 1 < end
    → zero_from unit (2 * at) (end - 2 * at) ≡ cond (eqb (unit (2 * at)) 0) (Some (2 * at)) (cond (eqb (unit (2 * at + 1)) 0) (Some (2 * at + 1)) (zero_from unit (2 * (at + 1)) (end - 2 * (at + 1))))
zero_words unit at end lt = let next : 2 * (at + 1) ≡ 2 * at + 1 + 1 = omega arith in rw (zero_next unit (2 * at) end (omega arith), zero_next unit (2 * at + 1) end lt, next) refl

pub stop_next : (byte : ℕ → ℕ) (i end : ℕ) → i < end
    → key_stop byte i (end - i) ≡ cond (eqb (byte i) 0) (Some i) (cond (ltb (byte i) 128) (key_stop byte (i + 1) (end - (i + 1))) None)
unfolding key_stop
stop_next byte i end lt = let k : end - i ≡ suc (end - (i + 1)) = omega arith in rw k refl

pub stop_never : (byte : ℕ → ℕ) (i end : ℕ) → end ≤ i → key_stop byte i (end - i) ≡ None
unfolding key_stop
stop_never byte i end le = let k : end - i ≡ 0 = omega arith in rw k refl

pub ruleset stops = (stop_next, stop_never, nat_tests)
