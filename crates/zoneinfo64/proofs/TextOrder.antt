-- UTF-8 keeps the order of characters: shorter encodings begin with lower bytes, and those of one length compare digit
-- by digit in base 64.
use Rattle.std.proofs.Common.{◌≡◌, ℕ, ◌+◌, ◌/◌, ◌%◌, ◌<◌, ◌≤◌, Bool, true, false, nat_lt, encode_utf8_all, List, [], ◌∷◌, ◌++◌, refl, sym, ap, ◌∙◌, ◌⊎◌, inl, inr, arith}
use Rattle.std.specs.Cmp.{first_so, second_so}
use Rattle.std.specs.Ordering.{nat_cmp, ordering_then}
use Rattle.std.specs.declared.cmp.Ordering.{Ordering}
use Rattle.std.specs.declared.cmp.Ordering.TheVariants.{Less, Equal, Greater}
use Rattle.std.specs.Cmp.Lexicographic.{slice_cmp}
use Rattle.std.specs.Str.{all_scalars}
use Rattle.std.proofs.lemmas.Bool.Decides.{nat_tests}
use Rattle.std.proofs.Math.Nat.{div-div-eq-div-mul}
use lib.Utf8.{encode, scalar, scalar_cases, next}

abbrev order : List ℕ → List ℕ → Ordering
order = slice_cmp nat_cmp

cmp_less : (a b : ℕ) → a < b → nat_cmp a b ≡ Less
cmp_less a b h = grind (arith, nat_tests)

cmp_equal : (a b : ℕ) → a ≡ b → nat_cmp a b ≡ Equal
cmp_equal a b h = grind (arith, nat_tests)

cmp_greater : (a b : ℕ) → b < a → nat_cmp a b ≡ Greater
cmp_greater a b h = grind (arith, nat_tests)

three_ways : (a b : ℕ) → (a < b) ⊎ ((a ≡ b) ⊎ (b < a))
three_ways a b = by (nat_lt a b) (nat_lt b a) refl refl
  where
    by : (c d : Bool) → nat_lt a b ≡ c → nat_lt b a ≡ d → (a < b) ⊎ ((a ≡ b) ⊎ (b < a))
    by true d h k = inl (grind (arith, nat_tests))
    by false true h k = inr (inr (grind (arith, nat_tests)))
    by false false h k = inr (inl (grind (arith, nat_tests)))

then_assoc : (o p q : Ordering) → ordering_then (ordering_then o p) q ≡ ordering_then o (ordering_then p q)
then_assoc Less p q = refl
then_assoc Equal p q = refl
then_assoc Greater p q = refl

-- adding one number to both changes nothing
shifted : (k a b : ℕ) → nat_cmp (k + a) (k + b) ≡ nat_cmp a b
shifted k a b = by (three_ways a b)
  where
    by : (a < b) ⊎ ((a ≡ b) ⊎ (b < a)) → nat_cmp (k + a) (k + b) ≡ nat_cmp a b
    by (inl h) = cmp_less (k + a) (k + b) (omega arith) ∙ sym (cmp_less a b h)
    by (inr (inl h)) = cmp_equal (k + a) (k + b) (omega arith) ∙ sym (cmp_equal a b h)
    by (inr (inr h)) = cmp_greater (k + a) (k + b) (omega arith) ∙ sym (cmp_greater a b h)

-- in base 64 the last digit decides where the others are equal
by_digits : (a b : ℕ) → ordering_then (nat_cmp (a / 64) (b / 64)) (nat_cmp (a % 64) (b % 64)) ≡ nat_cmp a b
by_digits a b = by (three_ways (a / 64) (b / 64)) (three_ways (a % 64) (b % 64))
  where
    by : (a / 64 < b / 64) ⊎ ((a / 64 ≡ b / 64) ⊎ (b / 64 < a / 64)) → (a % 64 < b % 64) ⊎ ((a % 64 ≡ b % 64) ⊎ (b % 64 < a % 64))
        → ordering_then (nat_cmp (a / 64) (b / 64)) (nat_cmp (a % 64) (b % 64)) ≡ nat_cmp a b
    by (inl h) k = ap (λ o. ordering_then o (nat_cmp (a % 64) (b % 64))) (cmp_less _ _ h) ∙ sym (cmp_less a b (omega arith))
    by (inr (inr h)) k = ap (λ o. ordering_then o (nat_cmp (a % 64) (b % 64))) (cmp_greater _ _ h) ∙ sym (cmp_greater a b (omega arith))
    by (inr (inl h)) (inl k) = ap (λ o. ordering_then o (nat_cmp (a % 64) (b % 64))) (cmp_equal _ _ h) ∙ cmp_less _ _ k ∙ sym (cmp_less a b (omega arith))
    by (inr (inl h)) (inr (inl k)) = ap (λ o. ordering_then o (nat_cmp (a % 64) (b % 64))) (cmp_equal _ _ h) ∙ cmp_equal _ _ k ∙ sym (cmp_equal a b (omega arith))
    by (inr (inl h)) (inr (inr k)) = ap (λ o. ordering_then o (nat_cmp (a % 64) (b % 64))) (cmp_equal _ _ h) ∙ cmp_greater _ _ k ∙ sym (cmp_greater a b (omega arith))

-- a digit after the others
digit_more : (a b : ℕ) (r : Ordering) → ordering_then (nat_cmp (a / 64) (b / 64)) (ordering_then (nat_cmp (next a) (next b)) r) ≡ ordering_then (nat_cmp a b) r
digit_more a b r =
    ap (λ o. ordering_then (nat_cmp (a / 64) (b / 64)) (ordering_then o r)) (shifted 128 (a % 64) (b % 64))
    ∙ sym (then_assoc (nat_cmp (a / 64) (b / 64)) (nat_cmp (a % 64) (b % 64)) r) ∙ ap (λ o. ordering_then o r) (by_digits a b)

-- ---- the four lengths

abbrev two : ℕ → List ℕ
two c = (192 + c / 64) ∷ next c ∷ []

abbrev three : ℕ → List ℕ
three c = (224 + c / 4096) ∷ next (c / 64) ∷ next c ∷ []

abbrev four : ℕ → List ℕ
four c = (240 + c / 262144) ∷ next (c / 4096) ∷ next (c / 64) ∷ next c ∷ []

data Encodes (c : ℕ) : Type 0 where
  in_one : c < 128 → encode c ≡ c ∷ [] → Encodes c
  in_two : 128 ≤ c → c < 2048 → encode c ≡ two c → Encodes c
  in_three : 2048 ≤ c → c < 65536 → encode c ≡ three c → Encodes c
  in_four : 65536 ≤ c → c < 1114112 → encode c ≡ four c → Encodes c

one_byte : (c : ℕ) → c < 128 → encode c ≡ c ∷ []
unfolding encode
one_byte c h = let a : nat_lt c 128 ≡ true = grind (arith, nat_tests) in rw a

two_bytes : (c : ℕ) → 128 ≤ c → c < 2048 → encode c ≡ two c
unfolding encode
two_bytes c g h =
    let a : nat_lt c 128 ≡ false = grind (arith, nat_tests) in
    let b : nat_lt c 2048 ≡ true = grind (arith, nat_tests) in
    rw (a, b)

three_bytes : (c : ℕ) → 2048 ≤ c → c < 65536 → encode c ≡ three c
unfolding encode
three_bytes c g h =
    let a : nat_lt c 128 ≡ false = grind (arith, nat_tests) in
    let b : nat_lt c 2048 ≡ false = grind (arith, nat_tests) in
    let d : nat_lt c 65536 ≡ true = grind (arith, nat_tests) in
    rw (a, b, d)

four_bytes : (c : ℕ) → 65536 ≤ c → encode c ≡ four c
unfolding encode
four_bytes c g =
    let a : nat_lt c 128 ≡ false = grind (arith, nat_tests) in
    let b : nat_lt c 2048 ≡ false = grind (arith, nat_tests) in
    let d : nat_lt c 65536 ≡ false = grind (arith, nat_tests) in
    rw (a, b, d)

or_more : (a b : ℕ) → (a < b) ⊎ (b ≤ a)
or_more a b = by (three_ways a b)
  where
    by : (a < b) ⊎ ((a ≡ b) ⊎ (b < a)) → (a < b) ⊎ (b ≤ a)
    by (inl h) = inl h
    by (inr (inl h)) = inr (omega arith)
    by (inr (inr h)) = inr (omega arith)

below_all : (c : ℕ) → scalar c ≡ true → c < 1114112
below_all c h = by (scalar_cases c h)
  where
    by : (c < 55296) ⊎ ((57344 ≤ c) × (c < 1114112)) → c < 1114112
    by (inl h) = omega arith
    by (inr h) = h.1

encodes : (c : ℕ) → scalar c ≡ true → Encodes c
encodes c h = by (or_more c 128) (or_more c 2048) (or_more c 65536)
  where
    by : (c < 128) ⊎ (128 ≤ c) → (c < 2048) ⊎ (2048 ≤ c) → (c < 65536) ⊎ (65536 ≤ c) → Encodes c
    by (inl a) b d = in_one a (one_byte c a)
    by (inr a) (inl b) d = in_two a b (two_bytes c a b)
    by (inr a) (inr b) (inl d) = in_three b d (three_bytes c b d)
    by (inr a) (inr b) (inr d) = in_four d (below_all c h) (four_bytes c d)

-- ---- one character

abbrev Keeps : ℕ → ℕ → Type 0
Keeps x y = (s t : List ℕ) → order (encode x ++ s) (encode y ++ t) ≡ ordering_then (nat_cmp x y) (order s t)

lower : (x y a b : ℕ) (as' bs : List ℕ) → encode x ≡ a ∷ as' → encode y ≡ b ∷ bs → a < b → x < y → Keeps x y
lower x y a b as' bs ex ey lead less s t =
    ap (λ u. order (u ++ s) (encode y ++ t)) ex ∙ ap (λ u. order ((a ∷ as') ++ s) (u ++ t)) ey
    ∙ ap (λ o. ordering_then o (order (as' ++ s) (bs ++ t))) (cmp_less a b lead)
    ∙ sym (ap (λ o. ordering_then o (order s t)) (cmp_less x y less))

higher : (x y a b : ℕ) (as' bs : List ℕ) → encode x ≡ a ∷ as' → encode y ≡ b ∷ bs → b < a → y < x → Keeps x y
higher x y a b as' bs ex ey lead more s t =
    ap (λ u. order (u ++ s) (encode y ++ t)) ex ∙ ap (λ u. order ((a ∷ as') ++ s) (u ++ t)) ey
    ∙ ap (λ o. ordering_then o (order (as' ++ s) (bs ++ t))) (cmp_greater a b lead)
    ∙ sym (ap (λ o. ordering_then o (order s t)) (cmp_greater x y more))

both_one : (x y : ℕ) → encode x ≡ x ∷ [] → encode y ≡ y ∷ [] → Keeps x y
both_one x y ex ey s t = ap (λ u. order (u ++ s) (encode y ++ t)) ex ∙ ap (λ u. order ((x ∷ []) ++ s) (u ++ t)) ey

both_two : (x y : ℕ) → encode x ≡ two x → encode y ≡ two y → Keeps x y
both_two x y ex ey s t =
    ap (λ u. order (u ++ s) (encode y ++ t)) ex ∙ ap (λ u. order (two x ++ s) (u ++ t)) ey
    ∙ ap (λ o. ordering_then o (ordering_then (nat_cmp (next x) (next y)) (order s t))) (shifted 192 (x / 64) (y / 64))
    ∙ digit_more x y (order s t)

-- the first of three digits is that of two, divided once more
leads_three : (x y : ℕ) → nat_cmp (224 + x / 4096) (224 + y / 4096) ≡ nat_cmp (x / 64 / 64) (y / 64 / 64)
leads_three x y =
    shifted 224 (x / 4096) (y / 4096)
    ∙ ap (λ n. nat_cmp n (y / 4096)) (sym (div-div-eq-div-mul x 64 64)) ∙ ap (λ n. nat_cmp (x / 64 / 64) n) (sym (div-div-eq-div-mul y 64 64))

both_three : (x y : ℕ) → encode x ≡ three x → encode y ≡ three y → Keeps x y
both_three x y ex ey s t =
    let last = ordering_then (nat_cmp (next x) (next y)) (order s t) in
    ap (λ u. order (u ++ s) (encode y ++ t)) ex ∙ ap (λ u. order (three x ++ s) (u ++ t)) ey
    ∙ ap (λ o. ordering_then o (ordering_then (nat_cmp (next (x / 64)) (next (y / 64))) last)) (leads_three x y)
    ∙ digit_more (x / 64) (y / 64) last ∙ digit_more x y (order s t)

leads_four : (x y : ℕ) → nat_cmp (240 + x / 262144) (240 + y / 262144) ≡ nat_cmp (x / 4096 / 64) (y / 4096 / 64)
leads_four x y =
    shifted 240 (x / 262144) (y / 262144)
    ∙ ap (λ n. nat_cmp n (y / 262144)) (sym (div-div-eq-div-mul x 4096 64)) ∙ ap (λ n. nat_cmp (x / 4096 / 64) n) (sym (div-div-eq-div-mul y 4096 64))

middle_four : (x y : ℕ) → nat_cmp (x / 4096) (y / 4096) ≡ nat_cmp (x / 64 / 64) (y / 64 / 64)
middle_four x y =
    ap (λ n. nat_cmp n (y / 4096)) (sym (div-div-eq-div-mul x 64 64)) ∙ ap (λ n. nat_cmp (x / 64 / 64) n) (sym (div-div-eq-div-mul y 64 64))

both_four : (x y : ℕ) → encode x ≡ four x → encode y ≡ four y → Keeps x y
both_four x y ex ey s t =
    let last = ordering_then (nat_cmp (next x) (next y)) (order s t) in
    let third = ordering_then (nat_cmp (next (x / 64)) (next (y / 64))) last in
    ap (λ u. order (u ++ s) (encode y ++ t)) ex ∙ ap (λ u. order (four x ++ s) (u ++ t)) ey
    ∙ ap (λ o. ordering_then o (ordering_then (nat_cmp (next (x / 4096)) (next (y / 4096))) third)) (leads_four x y)
    ∙ digit_more (x / 4096) (y / 4096) third ∙ ap (λ o. ordering_then o third) (middle_four x y)
    ∙ digit_more (x / 64) (y / 64) last ∙ digit_more x y (order s t)

char_keeps : (x y : ℕ) → Encodes x → Encodes y → Keeps x y
char_keeps x y (in_one a ex) (in_one b ey) = both_one x y ex ey
char_keeps x y (in_one a ex) (in_two b c ey) = lower x y _ _ _ _ ex ey (omega arith) (omega arith)
char_keeps x y (in_one a ex) (in_three b c ey) = lower x y _ _ _ _ ex ey (omega arith) (omega arith)
char_keeps x y (in_one a ex) (in_four b c ey) = lower x y _ _ _ _ ex ey (omega arith) (omega arith)
char_keeps x y (in_two a d ex) (in_one b ey) = higher x y _ _ _ _ ex ey (omega arith) (omega arith)
char_keeps x y (in_two a d ex) (in_two b c ey) = both_two x y ex ey
char_keeps x y (in_two a d ex) (in_three b c ey) = lower x y _ _ _ _ ex ey (omega arith) (omega arith)
char_keeps x y (in_two a d ex) (in_four b c ey) = lower x y _ _ _ _ ex ey (omega arith) (omega arith)
char_keeps x y (in_three a d ex) (in_one b ey) = higher x y _ _ _ _ ex ey (omega arith) (omega arith)
char_keeps x y (in_three a d ex) (in_two b c ey) = higher x y _ _ _ _ ex ey (omega arith) (omega arith)
char_keeps x y (in_three a d ex) (in_three b c ey) = both_three x y ex ey
char_keeps x y (in_three a d ex) (in_four b c ey) = lower x y _ _ _ _ ex ey (omega arith) (omega arith)
char_keeps x y (in_four a d ex) (in_one b ey) = higher x y _ _ _ _ ex ey (omega arith) (omega arith)
char_keeps x y (in_four a d ex) (in_two b c ey) = higher x y _ _ _ _ ex ey (omega arith) (omega arith)
char_keeps x y (in_four a d ex) (in_three b c ey) = higher x y _ _ _ _ ex ey (omega arith) (omega arith)
char_keeps x y (in_four a d ex) (in_four b c ey) = both_four x y ex ey

-- ---- texts

begins : (c : ℕ) → Encodes c → (b : ℕ) × (bs : List ℕ) × (encode c ≡ b ∷ bs)
begins c (in_one a e) = (_, _, e)
begins c (in_two a b e) = (_, _, e)
begins c (in_three a b e) = (_, _, e)
begins c (in_four a b e) = (_, _, e)

pub text-keeps-order : (xs ys : List ℕ) → all_scalars xs ≡ true → all_scalars ys ≡ true → order (encode_utf8_all xs) (encode_utf8_all ys) ≡ order xs ys
text-keeps-order [] [] h k = refl
text-keeps-order [] (y ∷ ys) h k =
    let b = begins y (encodes y (first_so (scalar y) (all_scalars ys) k)) in
    ap (λ u. order [] (u ++ encode_utf8_all ys)) b.2
text-keeps-order (x ∷ xs) [] h k =
    let b = begins x (encodes x (first_so (scalar x) (all_scalars xs) h)) in
    ap (λ u. order (u ++ encode_utf8_all xs) []) b.2
text-keeps-order (x ∷ xs) (y ∷ ys) h k =
    char_keeps x y (encodes x (first_so (scalar x) (all_scalars xs) h)) (encodes y (first_so (scalar y) (all_scalars ys) k)) (encode_utf8_all xs) (encode_utf8_all ys)
    ∙ ap (ordering_then (nat_cmp x y)) (text-keeps-order xs ys (second_so (scalar x) (all_scalars xs) h) (second_so (scalar y) (all_scalars ys) k))
