-- Values that stand one after the other, and bytes and units packed in words.
use Rattle.std.proofs.Common.{◌≡◌, ℕ, suc, ◌+◌, ◌*◌, ◌/◌, ◌%◌, ◌<◌, List, [], ◌∷◌, ◌++◌, length, refl, ap, ◌∙◌, subst, arith}
use Rattle.std.specs.Prelude.{slice_index}
use Rattle.resb_tree.specs.Words.{run, byte_in, unit_in}
use Rattle.resb.specs.Packing.{pack_bytes, pack_units}

-- from a place on, a function gives these values
abbrev pub Stand : (ℕ → ℕ) → ℕ → List ℕ → Type 0
Stand f at [] = Unit {0}
Stand f at (x ∷ xs) = (f at ≡ x) × Stand f (at + 1) xs

-- each value is below a bound
abbrev pub Below : ℕ → List ℕ → Type 0
Below n [] = Unit {0}
Below n (x ∷ xs) = (x < n) × Below n xs

abbrev pub StandIn : List ℕ → ℕ → List ℕ → Type 0
StandIn words at xs = Stand (slice_index words) at xs

pub stand_front : (f : ℕ → ℕ) (at : ℕ) (xs ys : List ℕ) → Stand f at (xs ++ ys) → Stand f at xs
stand_front f at [] ys h = tt
stand_front f at (x ∷ xs) ys h = (h.0, stand_front f (at + 1) xs ys h.1)

pub stand_back : (f : ℕ → ℕ) (at : ℕ) (xs ys : List ℕ) → Stand f at (xs ++ ys) → Stand f (at + length xs) ys
stand_back f at [] ys h = let e : at ≡ at + 0 = omega arith in subst (λ n. Stand f n ys) e h
stand_back f at (x ∷ xs) ys h =
    let e : at + 1 + length xs ≡ at + suc (length xs) = omega arith in
    subst (λ n. Stand f n ys) e (stand_back f (at + 1) xs ys h.1)

pub stand_run : (f : ℕ → ℕ) (at : ℕ) (xs : List ℕ) → Stand f at xs → run f at (length xs) ≡ xs
stand_run f at [] h = refl
stand_run f at (x ∷ xs) h = rw (h.0, stand_run f (at + 1) xs h.1) refl

pub below_append : (n : ℕ) (xs ys : List ℕ) → Below n xs → Below n ys → Below n (xs ++ ys)
below_append n [] ys h g = g
below_append n (x ∷ xs) ys h g = (h.0, below_append n xs ys h.1 g)

-- ---- bytes

byte_0 : (words : List ℕ) (at a r : ℕ) → slice_index words at ≡ a + 256 * r → a < 256 → byte_in words (4 * at) ≡ a
byte_0 words at a r e h =
    let q : 4 * at / 4 ≡ at = omega arith in
    let k : 4 * at % 4 ≡ 0 = omega arith in
    let v : (a + 256 * r) % 256 ≡ a = omega arith in
    rw (k, q, e) v

byte_1 : (words : List ℕ) (at a b r : ℕ) → slice_index words at ≡ a + 256 * b + 65536 * r → a < 256 → b < 256 → byte_in words (4 * at + 1) ≡ b
byte_1 words at a b r e h g =
    let q : (4 * at + 1) / 4 ≡ at = omega arith in
    let k : (4 * at + 1) % 4 ≡ 1 = omega arith in
    let v : (a + 256 * b + 65536 * r) / 256 % 256 ≡ b = omega arith in
    rw (k, q, e) v

byte_2 : (words : List ℕ) (at a b c r : ℕ) → slice_index words at ≡ a + 256 * b + 65536 * c + 16777216 * r → a < 256 → b < 256 → c < 256 → byte_in words (4 * at + 1 + 1) ≡ c
byte_2 words at a b c r e h g i =
    let q : (4 * at + 1 + 1) / 4 ≡ at = omega arith in
    let k : (4 * at + 1 + 1) % 4 ≡ 2 = omega arith in
    let v : (a + 256 * b + 65536 * c + 16777216 * r) / 65536 % 256 ≡ c = omega arith in
    rw (k, q, e) v

byte_3 : (words : List ℕ) (at a b c d : ℕ) → slice_index words at ≡ a + 256 * b + 65536 * c + 16777216 * d → a < 256 → b < 256 → c < 256 → byte_in words (4 * at + 1 + 1 + 1) ≡ d
byte_3 words at a b c d e h g i =
    let q : (4 * at + 1 + 1 + 1) / 4 ≡ at = omega arith in
    let k : (4 * at + 1 + 1 + 1) % 4 ≡ 3 = omega arith in
    let v : (a + 256 * b + 65536 * c + 16777216 * d) / 16777216 ≡ d = omega arith in
    rw (k, q, e) v

-- packed bytes are read back
pub bytes_stand : (words : List ℕ) (at : ℕ) (bytes : List ℕ) → StandIn words at (pack_bytes bytes) → Below 256 bytes → Stand (byte_in words) (4 * at) bytes
bytes_stand words at [] h g = tt
bytes_stand words at (a ∷ []) h g =
    let e : a ≡ a + 256 * 0 = omega arith in
    (byte_0 words at a 0 (h.0 ∙ e) g.0, tt)
bytes_stand words at (a ∷ b ∷ []) h g =
    let e : a + 256 * b ≡ a + 256 * b + 65536 * 0 = omega arith in
    (byte_0 words at a b h.0 g.0, (byte_1 words at a b 0 (h.0 ∙ e) g.0 g.1.0, tt))
bytes_stand words at (a ∷ b ∷ c ∷ []) h g =
    let e : a + 256 * b + 65536 * c ≡ a + 256 * (b + 256 * c) = omega arith in
    let f : a + 256 * b + 65536 * c ≡ a + 256 * b + 65536 * c + 16777216 * 0 = omega arith in
    (byte_0 words at a (b + 256 * c) (h.0 ∙ e) g.0, (byte_1 words at a b c h.0 g.0 g.1.0, (byte_2 words at a b c 0 (h.0 ∙ f) g.0 g.1.0 g.1.1.0, tt)))
bytes_stand words at (a ∷ b ∷ c ∷ d ∷ bytes) h g =
    let e : a + 256 * b + 65536 * c + 16777216 * d ≡ a + 256 * (b + 256 * c + 65536 * d) = omega arith in
    let f : a + 256 * b + 65536 * c + 16777216 * d ≡ a + 256 * b + 65536 * (c + 256 * d) = omega arith in
    let n : 4 * (at + 1) ≡ 4 * at + 1 + 1 + 1 + 1 = omega arith in (
      byte_0 words at a (b + 256 * c + 65536 * d) (h.0 ∙ e) g.0,
      (
        byte_1 words at a b (c + 256 * d) (h.0 ∙ f) g.0 g.1.0,
        (
          byte_2 words at a b c d h.0 g.0 g.1.0 g.1.1.0,
          (byte_3 words at a b c d h.0 g.0 g.1.0 g.1.1.0, subst (λ k. Stand (byte_in words) k bytes) n (bytes_stand words (at + 1) bytes h.1 g.1.1.1.1)),
        ),
      ),
    )

-- ---- units

unit_0 : (words : List ℕ) (at a r : ℕ) → slice_index words at ≡ a + 65536 * r → a < 65536 → unit_in words (2 * at) ≡ a
unit_0 words at a r e h =
    let q : 2 * at / 2 ≡ at = omega arith in
    let k : 2 * at % 2 ≡ 0 = omega arith in
    let v : (a + 65536 * r) % 65536 ≡ a = omega arith in
    rw (k, q, e) v

unit_1 : (words : List ℕ) (at a b : ℕ) → slice_index words at ≡ a + 65536 * b → a < 65536 → unit_in words (2 * at + 1) ≡ b
unit_1 words at a b e h =
    let q : (2 * at + 1) / 2 ≡ at = omega arith in
    let k : (2 * at + 1) % 2 ≡ 1 = omega arith in
    let v : (a + 65536 * b) / 65536 ≡ b = omega arith in
    rw (k, q, e) v

-- packed units are read back
pub units_stand : (words : List ℕ) (at : ℕ) (units : List ℕ) → StandIn words at (pack_units units) → Below 65536 units → Stand (unit_in words) (2 * at) units
units_stand words at [] h g = tt
units_stand words at (a ∷ []) h g =
    let e : a ≡ a + 65536 * 0 = omega arith in
    (unit_0 words at a 0 (h.0 ∙ e) g.0, tt)
units_stand words at (a ∷ b ∷ units) h g =
    let n : 2 * (at + 1) ≡ 2 * at + 1 + 1 = omega arith in
    (unit_0 words at a b h.0 g.0, (unit_1 words at a b h.0 g.0, subst (λ k. Stand (unit_in words) k units) n (units_stand words (at + 1) units h.1 g.1.1)))

pub length-pack_units : (units : List ℕ) → length (pack_units units) ≡ (length units + 1) / 2
length-pack_units [] = refl
length-pack_units (a ∷ []) = refl
length-pack_units (a ∷ b ∷ units) = omega (arith, length-pack_units units)

pub length-pack_bytes : (bytes : List ℕ) → length (pack_bytes bytes) ≡ (length bytes + 3) / 4
length-pack_bytes [] = refl
length-pack_bytes (a ∷ []) = refl
length-pack_bytes (a ∷ b ∷ []) = refl
length-pack_bytes (a ∷ b ∷ c ∷ []) = refl
length-pack_bytes (a ∷ b ∷ c ∷ d ∷ bytes) = omega (arith, length-pack_bytes bytes)

-- ---- a zero unit behind units

pub zero_even : (us : List ℕ) → length us % 2 ≡ 0 → pack_units (us ++ 0 ∷ []) ≡ pack_units us ++ 0 ∷ []
zero_even [] h = refl
zero_even (a ∷ []) h = absurd (omega arith)
zero_even (a ∷ b ∷ us) h =
    let g : length us % 2 ≡ 0 = omega arith in
    ap (λ ws. (a + 65536 * b) ∷ ws) (zero_even us g)

pub zero_odd : (us : List ℕ) → (length us % 2 ≡ 0 → ⊥) → pack_units us ≡ pack_units (us ++ 0 ∷ [])
zero_odd [] h = absurd (h (omega arith))
zero_odd (a ∷ []) h = let e : a ≡ a + 65536 * 0 = omega arith in ap (λ (n : ℕ). n ∷ []) e
zero_odd (a ∷ b ∷ us) h =
    ap (λ ws. (a + 65536 * b) ∷ ws) (zero_odd us (λ g. h (let e : suc (suc (length us)) % 2 ≡ 0 = omega arith in e)))
