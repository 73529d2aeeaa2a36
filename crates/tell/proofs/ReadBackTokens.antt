-- The tokens of a told distance: a number, the unit's word, and `ago`.
use Rattle.std.proofs.Common.{◌≡◌, ℕ, suc, ◌-◌, ◌<◌, ◌≤◌, ◌^◌, ◌&&◌, List, [], ◌∷◌, ◌++◌, length, take_while, Some, refl, ap, ◌∙◌, Bool, true, false, arith, decimal, rules}
use Rattle.std.proofs.Math.Seq.{take-append_seam, drop-append_seam}
use Rattle.std.proofs.lemmas.Bool.{and_parts}
use Rattle.std.proofs.lemmas.Bool.Decides.{nat_tests}
use Rattle.std.proofs.lemmas.Fmt.{digits_decimal, digits_value-decimal, length-decimal-le, decimal_nonempty}
use Rattle.std.proofs.lemmas.List.Sums.{take_while-cons}
use Rattle.std.proofs.lemmas.Str.Parse.{IsNumeralModel, numerals_by_fold}
use Rattle.interim.specs.declared.errors.Span.{Span}
use Rattle.interim.specs.TokenKinds.{Token, Kind, Number}
use Rattle.interim.specs.Tokens.{more, split_at, onward, tokens, kind_of}
use Rattle.std.specs.Char.{is_ascii_digit}
use Rattle.interim.specs.Characters.{skip, is_blank, decimal_from}

-- ---- digits

abbrev are_digits : List ℕ → Bool
are_digits [] = true
are_digits (d ∷ ds) = is_ascii_digit d && are_digits ds

own : IsNumeralModel (λ ds. are_digits ds ≡ true) (decimal_from 0)
own = numerals_by_fold _ (search rules) decimal_from (search rules)

-- digits before a space are all that a run of digits takes
digits_run : (ds rest : List ℕ) → are_digits ds ≡ true → take_while is_ascii_digit (ds ++ 32 ∷ rest) ≡ ds
digits_run [] rest h = refl
digits_run (d ∷ ds) rest h =
    let parts = and_parts (is_ascii_digit d) (are_digits ds) h in
    take_while-cons is_ascii_digit d (ds ++ 32 ∷ rest) ∙ rw (parts.0, digits_run ds rest parts.1) refl

more_digits : (b : ℕ) (bs rest : List ℕ) → is_ascii_digit b ≡ true → are_digits bs ≡ true → length bs ≤ 3 → more b (bs ++ 32 ∷ rest) ≡ length bs
unfolding more
more_digits b bs rest digit digits few = rw (digit, digits_run bs rest digits) (omega arith)

-- ---- a number of at most four digits before a space

abbrev pub at : Kind → Span → Token
at kind span = record { kind = kind; span = span }

split_digits : (n : ℕ) (ds rest : List ℕ) (total : ℕ) → decimal_from 0 ds ≡ n → 0 < length ds → length ds ≤ 4 → are_digits ds ≡ true
    → (span : Span) × (split_at total (skip (ds ++ 32 ∷ rest)) ≡ Some (at (Number n) span, 32 ∷ rest))
unfolding split_at kind_of
split_digits n [] rest total same some few h = absurd (omega arith)
split_digits n (b ∷ bs) rest total same some few h =
    let parts = and_parts (is_ascii_digit b) (are_digits bs) h in
    let blank : is_blank b ≡ false = grind (arith, nat_tests, parts.0) in (
      record { start = total - length (b ∷ bs ++ 32 ∷ rest); end = total - length (32 ∷ rest) },
      rw (← same, blank, more_digits b bs rest parts.0 parts.1 (omega arith), parts.0, take-append_seam bs (32 ∷ rest), drop-append_seam bs (32 ∷ rest)) refl,
    )

-- the tokens of a number, a space and what follows
pub number_tokens : (steps n total : ℕ) (rest : List ℕ) → n < 10000
    → (span : Span) × (tokens (suc steps) total (decimal n ++ 32 ∷ rest) ≡ at (Number n) span ∷ tokens steps total (32 ∷ rest))
unfolding tokens
number_tokens steps n total rest h =
    let small : n < 2 ^ 64 = omega arith in
    let split = split_digits n (decimal n) rest total (digits_value-decimal own n small) (decimal_nonempty n small) (length-decimal-le 4 n (omega arith) (omega arith) small) (digits_decimal own n small) in
    (split.0, ap (onward (tokens steps total)) split.1)
