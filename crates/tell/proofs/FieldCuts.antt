-- How the fields of a line are cut off one by one.
use Rattle.std.proofs.Common.{◌≡◌, ◌≢◌, ℕ, suc, ◌+◌, ◌-◌, ◌<◌, ◌≤◌, ◌^◌, ◌==◌, ℤ, pos, neg_ℤ, Bool, false, not, List, [], ◌∷◌, length, take, drop, get_or, Option, Some, None, refl, sym, if◌then◌else◌, arith}
use Rattle.std.specs.Option.{option_map}
use Rattle.std.specs.List.{prefix_len}
use Rattle.std.specs.Prelude.{option_and_then, position}
use Rattle.std.specs.Str.{IsUtf8}
use Rattle.std.proofs.Math.Nat.{pow-le-pow_right}
use Rattle.std.proofs.lemmas.List.{length-take-le}
use Rattle.std.proofs.lemmas.List.Sums.{position_or_len_is}
use Rattle.std.proofs.lemmas.List.Quantifiers.{position-Some}
use Rattle.std.proofs.lemmas.Str.{lead_after_ascii, IsUtf8-from_ascii, is_utf8-from_IsUtf8, IsUtf8-from_is_utf8}
use Rattle.std.proofs.lemmas.Bool.Decides.{nat_tests}
use Rattle.std.proofs.lemmas.Grind.{common_steps}
use Rattle.memchr.specs.Find.{IsFirstByte}
use Rattle.interim.specs.declared.types.Dialect.{Dialect}
use Rattle.tell.specs.Fields.{LineFields, without_cr, cut, digits_from, number_of, text_fields}
use Rattle.tell.specs.Inside.FieldsView.{number_cut, base_cut, dialect_cut}

-- ---- texts

pub ruleset texts = (IsUtf8-from_ascii, is_utf8-from_IsUtf8, IsUtf8-from_is_utf8)

-- a character begins behind an ASCII byte
pub lead_behind : (bs : List ℕ) (n : ℕ) → IsUtf8 bs → 0 < n → n < length bs → get_or bs (n - 1) 0 < 128 → 128 ≤ get_or bs n 0 → 192 ≤ get_or bs n 0
lead_behind bs n utf8 some inside ascii high =
    let e : n ≡ n - 1 + 1 = omega arith in
    rw e (lead_after_ascii bs (n - 1) utf8 ascii (omega arith) (rw e at high))

-- a CR at the end of a line is dropped
pub without_cr_is : (line : List ℕ) → 1 ≤ length line
    → without_cr line ≡ (if get_or line (length line - 1) 0 == 13 then take (length line - 1) line else line)
without_cr_is [] some = absurd (omega arith)
without_cr_is (b ∷ []) some = refl
without_cr_is (b ∷ c ∷ line) some =
    let n : suc (suc (length line)) - 1 ≡ suc (length (c ∷ line) - 1) = omega arith in
    rw (n, without_cr_is (c ∷ line) (omega arith)) (grind arith)

-- what memchr finds is the first place
pub place_is : (p : ℕ → Bool) (bytes : List ℕ) (found : Option ℕ) → IsFirstByte p bytes found → position p bytes ≡ found
place_is p bytes None none = grind (arith, common_steps, nat_tests, position_or_len_is p bytes (length bytes) 0)
place_is p bytes (Some i) (first, here) = grind (arith, common_steps, nat_tests, position_or_len_is p bytes i 0, first.before)

pub ruleset cuts = (place_is, lead_after_ascii)

-- ---- one field after another

then-then : {A B C : Type 0} (f : A → Option B) (g : B → Option C) (o : Option A) → option_and_then g (option_and_then f o) ≡ option_and_then (λ x. option_and_then g (f x)) o
then-then f g None = refl
then-then f g (Some x) = refl

map_is : {A B : Type 0} (f : A → B) (o : Option A) → option_map f o ≡ option_and_then (λ x. Some (f x)) o
map_is f None = refl
map_is f (Some x) = refl

abbrev all_fields : (List ℕ × List ℕ) → (ℤ × List ℕ) → (Dialect × List ℕ) → Option LineFields
all_fields first second third = Some (record { zone = first.0; base = second.0; dialect = third.0; phrase = third.1 })

pub text_fields_cuts : (text : List ℕ) → text_fields text
    ≡ option_and_then (λ first. option_and_then (λ second. option_and_then (all_fields first second) (dialect_cut second.1)) (base_cut first.1)) (cut text)
unfolding text_fields
text_fields_cuts text = sym (simp (then-then, map_is) refl)

position_later : (b : ℕ) (bytes : List ℕ) → (b == 9) ≡ false → position (λ b. b == 9) (b ∷ bytes) ≡ option_map suc (position (λ b. b == 9) bytes)
position_later b bytes e =
    let n : 1 + prefix_len (λ x. not (x == 9)) bytes ≡ suc (prefix_len (λ x. not (x == 9)) bytes) = omega arith in
    rw (e, n) (grind (arith, nat_tests, common_steps))

next : (i : ℕ) → suc i + 1 ≡ i + 2
next i = omega arith

-- a base with a minus sign, by the number behind the sign
pub base_cut_signed : (text : List ℕ) → 1 ≤ length text → get_or text 0 0 ≡ 45
    → base_cut text ≡ option_map (λ r. (neg_ℤ (pos r.0), drop (r.1 + 2) text)) (number_cut (take (length text - 1) (drop 1 text)))
base_cut_signed [] some sign = absurd (omega arith)
base_cut_signed (b ∷ rest) some sign =
    let behind : take (length (b ∷ rest) - 1) rest ≡ rest = grind (arith, common_steps) in
    rw (sign, behind, position_later 45 rest refl) (simp (then-then, map_is, next) refl)

-- ---- a number before the first tab

pub ten_to : (k : ℕ) → (10 ^ k ≡ 10 ^ k) × (k ≤ 12 → 10 ^ k ≤ 10 ^ 12) × (k ≤ 18 → 10 ^ k ≤ 10 ^ 18) × (k ≤ 19 → 10 ^ k ≤ 10 ^ 19)
ten_to k = (refl, pow-le-pow_right {n = 10} (omega arith), pow-le-pow_right {n = 10} (omega arith), pow-le-pow_right {n = 10} (omega arith))

-- so many bytes are digits, of this value: a number that ends further on goes on from there
pub record IsReadTo (bytes : List ℕ) (value count : ℕ) : Type 0 where
  pub digits : (n : ℕ) → count ≤ n → digits_from 0 (take n bytes) ≡ digits_from value (drop count (take n bytes))
  pub no_tab : (k : ℕ) → k < count → get_or bytes k 0 ≢ 9

none_of : {A : Type 0} (o : Option ℕ) (f : ℕ → Option A) → ((i : ℕ) → o ≡ Some i → f i ≡ None) → option_and_then f o ≡ None
none_of None f h = refl
none_of (Some i) f h = h i refl

no_digit : (value : ℕ) (bytes : List ℕ) → (0 < length bytes → 48 ≤ get_or bytes 0 0 → get_or bytes 0 0 ≤ 57 → ⊥) → 0 < length bytes → digits_from value bytes ≡ None
no_digit value [] h some = absurd (omega arith)
no_digit value (b ∷ bytes) h some = grind (arith, nat_tests, common_steps)

module _ (bytes : List ℕ) (value count : ℕ) (is : IsReadTo bytes value count) where
  -- they are no number where no tab stands behind them, or none of them is there
  pub no_number : (count < length bytes → 48 ≤ get_or bytes count 0 → get_or bytes count 0 ≤ 57 → 12 ≤ count)
      → (count < length bytes → get_or bytes count 0 ≡ 9 → count ≡ 0) → number_cut bytes ≡ None
  no_number digit some = none_of (position (λ b. b == 9) bytes) _ (λ i at.
      let (inside, tab, _) = position-Some (λ b. b == 9) bytes i 0 at in
      let nine : get_or bytes i 0 ≡ 9 = grind (arith, nat_tests) in
      let none : number_of (take i bytes) ≡ None = grind (arith, nat_tests, common_steps, length-take-le i bytes, is.digits i, no_digit value (drop count (take i bytes)), is.no_tab i) in
      rw none refl)

  pub a_number : count < length bytes → get_or bytes count 0 ≡ 9 → 1 ≤ count → count ≤ 12 → number_cut bytes ≡ Some (value, count)
  a_number inside tab some few =
      let first : position (λ b. b == 9) bytes ≡ Some count = grind (arith, common_steps, nat_tests, position_or_len_is (λ b. b == 9) bytes count 0, is.no_tab) in
      let number : number_of (take count bytes) ≡ Some value = grind (arith, nat_tests, common_steps, length-take-le count bytes, is.digits count) in
      rw (first, number) refl
