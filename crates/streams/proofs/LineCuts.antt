-- The lines that ended and the line that has begun, where bytes come one piece behind the other.
use Rattle.std.proofs.Common.{◌≡◌, ℕ, zero, suc, ◌+◌, ◌-◌, min, ◌<◌, ◌≤◌, Bool, true, false, cond, List, [], ◌∷◌, ◌++◌, length, take, drop, get_or, refl, sym, ap, ◌∙◌, arith, append_assoc, append-nil, nat_eq, add-one, Some, None}
use Rattle.std.proofs.lemmas.Bool.Decides.{nat_tests}
use Rattle.std.proofs.lemmas.List.{take_min, length-take, get_or-take}
use Rattle.std.proofs.Math.Seq.{take-append-add}
use Rattle.memchr.specs.Find.{IsFirstByte, is_byte}
use Rattle.streams.specs.LineLaws.{LinesEndAtLfs}
use Rattle.streams.specs.Lines.{lines_after, last_line, ended, ended_after}
use Rattle.streams.specs.Inside.Serving.{begun_after}

-- no LF is among these bytes
abbrev pub HasNoLf : List ℕ → Type 0
HasNoLf bytes = (k : ℕ) → k < length bytes → nat_eq (get_or bytes k 0) 10 ≡ true → ⊥

not_lf : (b : ℕ) → (nat_eq b 10 ≡ true → ⊥) → nat_eq b 10 ≡ false
not_lf b h = grind (arith, nat_tests)

later_no_lf : (b : ℕ) (bytes : List ℕ) → HasNoLf (b ∷ bytes) → HasNoLf bytes
later_no_lf b bytes none = λ k lt. none (suc k) (omega arith)

ended_of : (v : Bool) (line : List ℕ) (a b c d : List (List ℕ)) (e f ys : List ℕ) → a ≡ c ++ ended_after e ys → b ≡ d ++ ended_after f ys
    → cond v (line ∷ a) b ≡ cond v (line ∷ c) d ++ ended_after (cond v e f) ys
ended_of true line a b c d e f ys p q = ap (λ l. line ∷ l) p
ended_of false line a b c d e f ys p q = q

pub ended_after-append : (line xs ys : List ℕ) → ended_after line (xs ++ ys) ≡ ended_after line xs ++ ended_after (begun_after line xs) ys
ended_after-append line [] ys = refl
ended_after-append line (b ∷ xs) ys =
    ended_of (nat_eq b 10) line _ _ _ _ _ _ ys (ended_after-append [] xs ys) (ended_after-append (line ++ b ∷ []) xs ys)

begun_of : (v : Bool) (a b e f ys : List ℕ) → a ≡ begun_after e ys → b ≡ begun_after f ys → cond v a b ≡ begun_after (cond v e f) ys
begun_of true a b e f ys p q = p
begun_of false a b e f ys p q = q

pub begun_after-append : (line xs ys : List ℕ) → begun_after line (xs ++ ys) ≡ begun_after (begun_after line xs) ys
begun_after-append line [] ys = refl
begun_after-append line (b ∷ xs) ys =
    begun_of (nat_eq b 10) _ _ _ _ ys (begun_after-append [] xs ys) (begun_after-append (line ++ b ∷ []) xs ys)

lines_of : (v : Bool) (line : List ℕ) (a b c d : List (List ℕ)) (e f : List ℕ) → a ≡ c ++ last_line e → b ≡ d ++ last_line f
    → cond v (line ∷ a) b ≡ cond v (line ∷ c) d ++ last_line (cond v e f)
lines_of true line a b c d e f p q = ap (λ l. line ∷ l) p
lines_of false line a b c d e f p q = q

-- the lines are those that ended, and the last one
pub lines_after-ended : (line bytes : List ℕ) → lines_after line bytes ≡ ended_after line bytes ++ last_line (begun_after line bytes)
lines_after-ended line [] = refl
lines_after-ended line (b ∷ bytes) =
    lines_of (nat_eq b 10) line _ _ _ _ _ _ (lines_after-ended [] bytes) (lines_after-ended (line ++ b ∷ []) bytes)

-- without an LF no line ends
pub ended_after-none : (bytes line : List ℕ) → HasNoLf bytes → ended_after line bytes ≡ []
ended_after-none [] line none = refl
ended_after-none (b ∷ bytes) line none =
    let other : nat_eq b 10 ≡ false = not_lf b (none 0 (omega arith)) in
    rw other (ended_after-none bytes (line ++ b ∷ []) (later_no_lf b bytes none))

-- and the line goes on
pub begun_after-none : (bytes line : List ℕ) → HasNoLf bytes → begun_after line bytes ≡ line ++ bytes
begun_after-none [] line none = sym (append-nil line)
begun_after-none (b ∷ bytes) line none =
    let other : nat_eq b 10 ≡ false = not_lf b (none 0 (omega arith)) in
    rw other (begun_after-none bytes (line ++ b ∷ []) (later_no_lf b bytes none) ∙ append_assoc line (b ∷ []) bytes)

first_lf : (bytes : List ℕ) (i : ℕ) → i < length bytes → nat_eq (get_or bytes i 0) 10 ≡ true → bytes ≡ take i bytes ++ 10 ∷ drop (i + 1) bytes
first_lf [] i lt e = absurd (omega arith)
first_lf (b ∷ bytes) zero lt e =
    let lf : b ≡ 10 = grind (arith, nat_tests) in
    rw lf refl
first_lf (b ∷ bytes) (suc i) lt e = rw add-one (ap (λ l. b ∷ l) (rw add-one at (first_lf bytes i (omega arith) e)))

front_no_lf : (bytes : List ℕ) (i : ℕ) → ((k : ℕ) → k < i → nat_eq (get_or bytes k 0) 10 ≡ true → ⊥) → HasNoLf (take i bytes)
front_no_lf bytes i none k lt e =
    let before : k < i = omega (arith, length-take i bytes) in
    none k before (rw get_or-take at e)

-- the place of the first LF cuts the bytes
pub first_cut : (bytes : List ℕ) (i : ℕ) → IsFirstByte (is_byte 10) bytes (Some i) → (bytes ≡ take i bytes ++ 10 ∷ drop (i + 1) bytes) × HasNoLf (take i bytes)
first_cut bytes i (bounds, here) =
    (first_lf bytes i bounds.high here, front_no_lf bytes i (λ k lt. bounds.before k (omega arith) lt))

pub none_cut : (bytes : List ℕ) → IsFirstByte (is_byte 10) bytes None → HasNoLf bytes
none_cut bytes none = λ k lt. none k (omega arith) lt

-- the front of a front, and what stands behind it
pub take_front : (n : ℕ) (xs ys : List ℕ) → take n (take n xs ++ ys) ≡ take n (xs ++ ys)
take_front zero xs ys = refl
take_front (suc n) [] ys = refl
take_front (suc n) (x ∷ xs) ys = ap (λ l. x ∷ l) (take_front n xs ys)

-- what is appended as far as there is room
pub take_room : (n k : ℕ) (old bytes : List ℕ) → length old ≤ n → k ≡ min (n - length old) (length bytes) → old ++ take k bytes ≡ take n (old ++ bytes)
take_room n k old bytes fits e =
    let split : n ≡ length old + (n - length old) = omega arith in
    let front : take k bytes ≡ take (n - length old) bytes = rw e (take_min (n - length old) bytes) in
    ap (λ l. old ++ l) front ∙ sym (ap (λ (m : ℕ). take m (old ++ bytes)) split ∙ take-append-add old bytes (n - length old))

-- so it ends the first line
first_ended : (bytes : List ℕ) (i : ℕ) → IsFirstByte (is_byte 10) bytes (Some i) → ended bytes ≡ take i bytes ∷ ended (drop (i + 1) bytes)
first_ended bytes i is =
    let (cut, none) = first_cut bytes i is in
    ap ended cut ∙ ended_after-append [] (take i bytes) (10 ∷ drop (i + 1) bytes)
    ∙ rw (ended_after-none (take i bytes) [] none, begun_after-none (take i bytes) [] none) refl

pub lines_end_at_lfs : LinesEndAtLfs
lines_end_at_lfs = record { first = first_ended; none = λ bytes is. ended_after-none bytes [] (none_cut bytes is) }
