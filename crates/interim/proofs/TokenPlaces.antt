-- Where tokens stand, and how large their numbers are.
use Rattle.std.proofs.Common.{◌≡◌, ℕ, zero, suc, ◌+◌, ◌-◌, ◌*◌, ◌<◌, ◌≤◌, ◌^◌, min, List, [], ◌∷◌, length, take, drop, take_while, refl, subst, cond, Bool, true, false, arith, lit≤, ◌==◌}
use Rattle.std.proofs.Math.Nat.{mul-le-mul_right, pow-succ'}
use Rattle.std.proofs.lemmas.Bool.Decides.{nat_tests}
use Rattle.std.proofs.lemmas.List.{length-drop}
use Rattle.std.proofs.lemmas.List.Sums.{take_while-cons}
use Rattle.interim.specs.TokenKinds.{Token, Kind, Number, Word}
use Rattle.interim.specs.Tokens.{more, split_at, onward, tokens, kind_of, is_ascii, mark}
use Rattle.std.specs.Char.{is_ascii_digit}
use Rattle.interim.specs.Characters.{skip, is_letter, continues, decimal_from, run_len}
use Rattle.interim.specs.TokenLaws.{AreInOrder, HasFewDigits, AllHaveFewDigits}
use Rattle.interim.proofs.Tail.{length-skip}

-- behind the token at the front of a text of so many bytes
in_order_split : (others : List ℕ → List Token) (from total : ℕ) (bs : List ℕ) → length bs ≤ total → from + length bs ≤ total →
    ((rest : List ℕ) → length rest < length bs → AreInOrder (total - length rest) total (others rest)) → AreInOrder from total (onward others (split_at total bs))
unfolding split_at
in_order_split others from total [] h p rest = omega arith
in_order_split others from total (b ∷ bs) h p rest =
    let n = more b bs in
    let shorter : length (drop n bs) ≤ length bs = omega (arith, length-drop n bs) in
    (omega arith, omega arith, rest (drop n bs) (omega arith))

pub in_order : (steps from total : ℕ) (bs : List ℕ) → from + length bs ≤ total → AreInOrder from total (tokens steps total bs)
unfolding tokens
in_order zero from total bs p = omega arith
in_order (suc steps) from total bs p =
    in_order_split (tokens steps total) from total (skip bs) (omega (arith, length-skip bs)) (omega (arith, length-skip bs)) (λ rest lt. in_order steps (total - length rest) total rest (omega (arith, lt, length-skip bs)))

-- ---- numbers

pow_small : (n : ℕ) → n ≤ 3 → 10 ^ n ≤ 1000
pow_small zero h = lit≤ tt
pow_small (suc zero) h = lit≤ tt
pow_small (suc (suc zero)) h = lit≤ tt
pow_small (suc (suc (suc zero))) h = lit≤ tt
pow_small (suc (suc (suc (suc n)))) h = absurd (omega arith)

digit_value : (d : ℕ) → is_ascii_digit d ≡ true → d - 48 ≤ 9
digit_value d h = grind (arith, nat_tests)

-- one digit more makes a number ten times as large at most
digit_small : (n v b : ℕ) (bs : List ℕ) (p : Bool) → is_ascii_digit b ≡ p → suc n ≤ length (cond p (b ∷ take_while is_ascii_digit bs) []) →
    ((w : ℕ) → n ≤ run_len is_ascii_digit bs → decimal_from w (take n bs) < (w + 1) * 10 ^ n) → decimal_from (v * 10 + (b - 48)) (take n bs) < (v + 1) * 10 ^ suc n
digit_small n v b bs false e h rest = absurd (omega arith)
digit_small n v b bs true e h rest =
    let digit : b - 48 ≤ 9 = digit_value b e in
    let below : decimal_from (v * 10 + (b - 48)) (take n bs) < (v * 10 + (b - 48) + 1) * 10 ^ n = rest (v * 10 + (b - 48)) (omega arith) in
    let more : (v * 10 + (b - 48) + 1) * 10 ^ n ≤ ((v + 1) * 10) * 10 ^ n = mul-le-mul_right (10 ^ n) (omega arith) in
    rw (pow-succ' 10 n) (omega arith)

decimal_small : (n v : ℕ) (bs : List ℕ) → n ≤ run_len is_ascii_digit bs → decimal_from v (take n bs) < (v + 1) * 10 ^ n
decimal_small zero v [] h = omega arith
decimal_small zero v (b ∷ bs) h = omega arith
decimal_small (suc n) v [] h = absurd (omega arith)
decimal_small (suc n) v (b ∷ bs) h = digit_small n v b bs (is_ascii_digit b) refl (subst (λ xs. suc n ≤ length xs) (take_while-cons is_ascii_digit b bs) h) (λ w. decimal_small n w bs)

-- up to three digits behind another make a number below 10,000
number_small : (b n : ℕ) (bs : List ℕ) → is_ascii_digit b ≡ true → n ≡ min 3 (run_len is_ascii_digit bs) → decimal_from 0 (b ∷ take n bs) < 10000
number_small b n bs e h =
    let digit : b - 48 ≤ 9 = digit_value b e in
    let below : decimal_from (0 * 10 + (b - 48)) (take n bs) < (0 * 10 + (b - 48) + 1) * 10 ^ n = decimal_small n (0 * 10 + (b - 48)) bs (omega arith) in
    let few : 10 ^ n ≤ 1000 = pow_small n (omega arith) in
    let all : (0 * 10 + (b - 48) + 1) * 10 ^ n ≤ 10 * 10 ^ n = mul-le-mul_right (10 ^ n) (omega arith) in
    omega arith

either_few : (p : Bool) (x y : Kind) → HasFewDigits x → HasFewDigits y → HasFewDigits (cond p x y)
either_few true x y h k = h
either_few false x y h k = k

mark_few : (b : ℕ) → HasFewDigits (mark b)
mark_few b =
    either_few (b == 45) _ _ tt (either_few (b == 47) _ _ tt (either_few (b == 58) _ _ tt (either_few (b == 46) _ _ tt (either_few (b == 44) _ _ tt (either_few (b == 43) _ _ tt tt)))))

kind_few : (b : ℕ) (bs : List ℕ) (rest : ℕ) (p q : Bool) → is_ascii_digit b ≡ p → is_letter b ≡ q →
    HasFewDigits (cond p (Number (decimal_from 0 (b ∷ take (cond p (min 3 (run_len is_ascii_digit bs)) (cond q (run_len is_letter bs) rest)) bs))) (cond q (Word (b ∷ take (cond p (min 3 (run_len is_ascii_digit bs)) (cond q (run_len is_letter bs) rest)) bs)) (mark b)))
kind_few b bs rest true q e f = number_small b (min 3 (run_len is_ascii_digit bs)) bs e refl
kind_few b bs rest false true e f = tt
kind_few b bs rest false false e f = mark_few b

few_split : (others : List ℕ → List Token) (total : ℕ) (bs : List ℕ) → ((rest : List ℕ) → AllHaveFewDigits (others rest)) → AllHaveFewDigits (onward others (split_at total bs))
unfolding split_at kind_of more
few_split others total [] rest = tt
few_split others total (b ∷ bs) rest = (kind_few b bs (cond (is_ascii b) 0 (run_len continues bs)) (is_ascii_digit b) (is_letter b) refl refl, rest _)

pub few_digits : (steps total : ℕ) (bs : List ℕ) → AllHaveFewDigits (tokens steps total bs)
unfolding tokens
few_digits zero total bs = tt
few_digits (suc steps) total bs = few_split (tokens steps total) total (skip bs) (few_digits steps total)
