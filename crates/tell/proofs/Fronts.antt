-- What stands before the words of a distance: how long its numbers are, and that it is ASCII.
use Rattle.std.proofs.Common.{◌≡◌, ℕ, ◌<◌, ◌≤◌, ◌^◌, ◌/◌, ℤ, Bool, true, false, [], length, FitsSigned, w64, w32, arith, refl, rules, codes}
use Rattle.std.specs.Fmt.{decimal}
use Rattle.std.specs.Str.{IsAscii}
use Rattle.std.proofs.lemmas.Int.{ints}
use Rattle.std.proofs.lemmas.Fmt.{length-decimal-le, IsAscii-decimal}
use Rattle.std.proofs.lemmas.Str.{IsAscii-append}
use Rattle.std.proofs.lemmas.Str.Ascii.{IsAscii-nil, IsAscii-cons}
use Rattle.itoa.proofs.Decimal.{IsAscii-signed_decimal}
use Rattle.tell.specs.ReplyTexts.{side_text}
use Rattle.tell.specs.Inside.ReplyParts.{front_text}

-- a magnitude of 64 bits has at most 19 digits, and one of 32 bits at most 10
pub few : (n : ℕ) → (decimal n ≡ decimal n) × (n ≤ 9223372036854775808 → length (decimal n) ≤ 19) × (n < 2 ^ 32 → length (decimal n) ≤ 10)
few n = (refl, λ h. length-decimal-le 19 n (omega arith) (omega (arith, h)) (omega (arith, h)), λ h. length-decimal-le 10 n (omega arith) (omega (arith, h)) (omega (arith, h)))

ascii_side : (ahead : Bool) → IsAscii (side_text ahead)
ascii_side true = IsAscii-cons 43 [] (omega arith) IsAscii-nil
ascii_side false = IsAscii-cons 45 [] (omega arith) IsAscii-nil

pub ascii_front : (second offset : ℤ) (nanos : ℕ) (ahead : Bool) → FitsSigned w64 second → FitsSigned w32 offset → nanos < 2 ^ 32 → IsAscii (front_text second nanos offset ahead)
ascii_front second offset nanos ahead s o m =
    let tab : IsAscii (codes "\t") = IsAscii-cons 9 [] (omega arith) IsAscii-nil in
    let wide : FitsSigned w64 offset = omega (arith, ints, o) in
    let micros : nanos / 1000 < 2 ^ 64 = omega arith in
    search (rules, IsAscii-append, IsAscii-decimal (nanos / 1000) micros, IsAscii-signed_decimal second s, IsAscii-signed_decimal offset wide, ascii_side ahead, tab) depth 20
