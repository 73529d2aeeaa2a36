-- The text of an offset, by its sign and its size.
use Rattle.std.proofs.Common.{◌≡◌, ◌≢◌, ℕ, ◌/◌, ◌%◌, List, ◌∷◌, ◌++◌, true, false, ℤ, unsigned_abs, eqb, eq-eqb, refl, arith}
use Rattle.std.specs.Fmt.{decimal}
use Rattle.civil.specs.Dates.{two_digits}
use Rattle.zoned.specs.Texts.{offset_sign, offset_text}

pub short_text : (sign : List ℕ) (n : ℕ) (z : ℤ) → sign ≡ offset_sign z → n ≡ unsigned_abs z → n % 60 ≡ 0
    → sign ++ two_digits (n / 3600) (58 ∷ (decimal (n / 60 % 60 / 10) ++ decimal (n / 60 % 60 % 10))) ≡ offset_text z
short_text sign n z e f h =
    let none : unsigned_abs z % 60 ≡ 0 = omega (arith, f) in
    let test : eqb (unsigned_abs z % 60) 0 ≡ true = eq-eqb (unsigned_abs z % 60) 0 none in
    rw (e, f, test) refl

pub long_text : (sign : List ℕ) (n : ℕ) (z : ℤ) → sign ≡ offset_sign z → n ≡ unsigned_abs z → n % 60 ≢ 0
    → sign ++ two_digits (n / 3600) (58 ∷ two_digits (n / 60 % 60) (58 ∷ (decimal (n % 60 / 10) ++ decimal (n % 60 % 10)))) ≡ offset_text z
long_text sign n z e f h =
    let some : unsigned_abs z % 60 ≢ 0 = λ none. h (omega (arith, f)) in
    let test : eqb (unsigned_abs z % 60) 0 ≡ false = grind (arith, some) in
    rw (e, f, test) refl
