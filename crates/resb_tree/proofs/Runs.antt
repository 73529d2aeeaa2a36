-- Values in a row, as a loop reads them.
use Rattle.std.proofs.Common.{sym, add-one, drop-cons, ◌≡◌, get_or, take, drop, ℕ, zero, suc, ◌+◌, ◌-◌, ◌*◌, ◌/◌, ◌%◌, ◌<◌, ◌≤◌, List, [], ◌∷◌, ◌++◌, length, Some, None, refl, ap, ◌∙◌, add-zero, append_assoc, arith}
use Rattle.std.specs.Prelude.{slice_get}
use Rattle.std.proofs.lemmas.Bool.Decides.{nat_tests}
use Rattle.std.proofs.lemmas.List.{append-nil}
use Rattle.resb_tree.specs.Words.{run}

pub run_push : {A : Type 0} (at : ℕ → A) (from count : ℕ) → run at from (count + 1) ≡ run at from count ++ at (from + count) ∷ []
run_push at from zero = rw (add-zero) refl
run_push at from (suc count) =
    let e : suc count + 1 ≡ suc (count + 1) = omega arith in
    let f : from + suc count ≡ from + 1 + count = omega arith in
    rw (e, f) (ap (λ xs. at from ∷ xs) (run_push at (from + 1) count))

pub length_run : {A : Type 0} (at : ℕ → A) (from count : ℕ) → length (run at from count) ≡ count
length_run at from zero = refl
length_run at from (suc count) = ap suc (length_run at (from + 1) count)

-- the values up to a place: one, and those behind it; or none
pub run_next : {A : Type 0} (at : ℕ → A) (i end : ℕ) → i < end → run at i (end - i) ≡ at i ∷ run at (i + 1) (end - (i + 1))
run_next at i end lt = let k : end - i ≡ suc (end - (i + 1)) = omega arith in rw k refl

pub run_none : {A : Type 0} (at : ℕ → A) (i end : ℕ) → end ≤ i → run at i (end - i) ≡ []
run_none at i end le = let k : end - i ≡ 0 = omega arith in rw k refl

-- one more value behind those that were read
pub run_grow : {A : Type 0} (at : ℕ → A) (from i : ℕ) → from ≤ i → run at from (i + 1 - from) ≡ run at from (i - from) ++ at i ∷ []
run_grow at from i le =
    let k : i + 1 - from ≡ i - from + 1 = omega arith in
    let j : from + (i - from) ≡ i = omega arith in
    rw (k, run_push at from (i - from), j) refl

-- two more, and any count
pub run_two : {A : Type 0} (at : ℕ → A) (from i : ℕ) → from ≤ i → run at from (i + 2 - from) ≡ (run at from (i - from) ++ at i ∷ []) ++ at (i + 1) ∷ []
run_two at from i le =
    let k : i + 2 ≡ i + 1 + 1 = omega arith in
    rw (k, run_grow at from (i + 1) (omega arith), run_grow at from i le) refl

pub run_join : {A : Type 0} (at : ℕ → A) (from i count : ℕ) → from ≤ i → run at from (i + count - from) ≡ run at from (i - from) ++ run at i count
run_join at from i zero le = rw (add-zero, append-nil (run at from (i - from))) refl
run_join at from i (suc count) le =
    let k : i + suc count ≡ i + 1 + count = omega arith in
    rw (k, run_join at from (i + 1) count (omega arith), run_grow at from i le, append_assoc (run at from (i - from)) (at i ∷ []) (run at (i + 1) count)) refl

-- a word's first unit and byte
pub even_place : (i : ℕ) → i % 2 ≡ 0 → i / 2 * 2 ≡ i
even_place i h = omega arith

pub word_place : (i : ℕ) → i % 4 ≡ 0 → i / 4 * 4 ≡ i
word_place i h = omega arith

-- the value at a place
pub run_get : {A : Type 0} (at : ℕ → A) (from count k : ℕ) → k < count → slice_get (run at from count) k ≡ Some (at (from + k))
run_get at from zero k lt = absurd (omega arith)
run_get at from (suc count) zero lt = rw add-zero refl
run_get at from (suc count) (suc k) lt = let e : from + suc k ≡ from + 1 + k = omega arith in rw e (run_get at (from + 1) count k (omega arith))

pub run_past : {A : Type 0} (at : ℕ → A) (from count k : ℕ) → count ≤ k → slice_get (run at from count) k ≡ None
run_past at from zero zero le = refl
run_past at from zero (suc k) le = refl
run_past at from (suc count) zero le = absurd (omega arith)
run_past at from (suc count) (suc k) le = run_past at (from + 1) count k (omega arith)

take_run : (words : List ℕ) (from count : ℕ) → from + count ≤ length words → take count (drop from words) ≡ run (λ k. get_or words k 0) from count
take_run words from zero h = refl
take_run words from (suc count) h =
    let lt : from < length words = omega arith in
    let e : drop from words ≡ get_or words from 0 ∷ drop (from + 1) words = drop-cons words from 0 lt ∙ ap (λ n. get_or words from 0 ∷ drop n words) (sym (add-one from)) in
    rw e (ap (λ xs. get_or words from 0 ∷ xs) (take_run words (from + 1) count (omega arith)))

-- a part of a slice is a run of its values
pub slice_run : (words : List ℕ) (from count : ℕ) → from + count ≤ length words → take (from + count - from) (drop from words) ≡ run (λ k. get_or words k 0) from count
slice_run words from count h =
    let e : from + count - from ≡ count = omega arith in
    rw e (take_run words from count h)

pub run_shift : (at : ℕ → ℕ) (base from count : ℕ) → run at (base + from) count ≡ run (λ k. at (base + k)) from count
run_shift at base from zero = refl
run_shift at base from (suc count) =
    let e : base + from + 1 ≡ base + (from + 1) = omega arith in
    rw e (ap (λ xs. at (base + from) ∷ xs) (run_shift at base (from + 1) count))

pub ruleset two_more = (run_grow, run_two, even_place, nat_tests)

pub ruleset four_more = (run_grow, run_join, word_place, nat_tests)
