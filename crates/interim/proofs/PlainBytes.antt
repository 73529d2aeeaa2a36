-- The tokens of a phrase whose bytes are a date with dashes and a clock time with a colon.
use Rattle.std.proofs.Common.{◌≡◌, ℕ, ◌≤◌, List, [], ◌∷◌, ◌++◌, ◌≢◌, eqb, take, drop, None, Bool, true, false, if◌then◌else◌, refl, sym, ap, ◌∙◌, arith}
use Rattle.std.proofs.lemmas.Bool.Decides.{nat_tests}
use Rattle.std.specs.List.{prefix_len}
use Rattle.interim.specs.TokenKinds.{Number, Dash, Colon}
use Rattle.std.specs.Char.{is_ascii_digit}
use Rattle.interim.specs.Characters.{is_blank, is_letter, decimal_from}
use Rattle.interim.specs.Tokens.{more, kind_of, split_at, tokens, tokens_of, phrase_tokens}
use Rattle.interim.specs.PlainDates.{kinds, Dashed, spelled_date}
use Rattle.interim.specs.PlainTimes.{Minutes, spelled_time}
use Rattle.interim.specs.PlainForm.{PlainPhrase, spelled, spelled_t}
use Rattle.interim.specs.declared.types.Dialect.{Dialect}
use Rattle.interim.specs.PlainFormLaws.{IsReadAsNamed}
use Rattle.interim.specs.Parts.{date_of, clock}
use Rattle.interim.proofs.PlainReading.{form_read}
use Rattle.interim.proofs.Tail.{tokens_split}

pub digit_is : (b : ℕ) → 48 ≤ b → b ≤ 57 → is_ascii_digit b ≡ true
digit_is b low high = grind (arith, nat_tests)

pub digit_no_blank : (b : ℕ) → is_ascii_digit b ≡ true → is_blank b ≡ false
digit_no_blank b e = grind (arith, nat_tests)

digit_no_letter : (b : ℕ) → is_ascii_digit b ≡ true → is_letter b ≡ false
digit_no_letter b e = grind (arith, nat_tests)

-- two digits
abbrev pub Pair : ℕ → ℕ → Type 0
Pair a b = (is_ascii_digit a ≡ true) × (is_ascii_digit b ≡ true)

-- and the number that they write
abbrev pub pair : ℕ → ℕ → ℕ
pair a b = decimal_from 0 (a ∷ b ∷ [])

pub pair_is : (a b : ℕ) → 48 ≤ a → a ≤ 57 → 48 ≤ b → b ≤ 57 → Pair a b
pair_is a b low high low' high' = (digit_is a low high, digit_is b low' high')

-- the kind of the token at the front, and of those behind it
pub first_kind : (total b : ℕ) (bs : List ℕ) → is_blank b ≡ false → kinds (tokens_of total (b ∷ bs)) ≡ kind_of b (b ∷ take (more b bs) bs) ∷ kinds (tokens_of total (drop (more b bs) bs))
unfolding split_at
first_kind total b bs e = rw (tokens_split total (b ∷ bs), e) refl

-- two digits, behind which no other stands
two_digits : (total a b : ℕ) (bs : List ℕ) → Pair a b → prefix_len is_ascii_digit bs ≡ 0
    → kinds (tokens_of total (a ∷ b ∷ bs)) ≡ Number (pair a b) ∷ kinds (tokens_of total bs)
unfolding more kind_of
two_digits total a b bs p last = first_kind total a (b ∷ bs) (digit_no_blank a p.0) ∙ rw (p.0, p.1, last) refl

four_digits : (total a b c d : ℕ) (bs : List ℕ) → Pair a b → Pair c d → prefix_len is_ascii_digit bs ≡ 0
    → kinds (tokens_of total (a ∷ b ∷ c ∷ d ∷ bs)) ≡ Number (decimal_from 0 (a ∷ b ∷ c ∷ d ∷ [])) ∷ kinds (tokens_of total bs)
unfolding more kind_of
four_digits total a b c d bs p q last = first_kind total a (b ∷ c ∷ d ∷ bs) (digit_no_blank a p.0) ∙ rw (p.0, p.1, q.0, q.1, last) refl

dash_first : (total : ℕ) (bs : List ℕ) → kinds (tokens_of total (45 ∷ bs)) ≡ Dash ∷ kinds (tokens_of total bs)
unfolding more kind_of
dash_first total bs = first_kind total 45 bs refl

colon_first : (total : ℕ) (bs : List ℕ) → kinds (tokens_of total (58 ∷ bs)) ≡ Colon ∷ kinds (tokens_of total bs)
unfolding more kind_of
colon_first total bs = first_kind total 58 bs refl

pub blank_first : (total : ℕ) (bs : List ℕ) → tokens_of total (32 ∷ bs) ≡ tokens_of total bs
blank_first total bs = tokens_split total (32 ∷ bs) ∙ sym (tokens_split total bs)

-- a T or a blank
abbrev pub between : Bool → ℕ
between has_t = if has_t then 84 else 32

-- a byte that is one of them
there_case : (b : ℕ) (p : Bool) → eqb b 32 ≡ p → (b ≢ 32 → b ≡ 84) → (has_t : Bool) × (b ≡ between has_t)
there_case b true e h = (false, grind (arith, nat_tests))
there_case b false e h = (true, h (λ x. grind (arith, nat_tests)))

pub between_there : (b : ℕ) → (b ≢ 32 → b ≡ 84) → (has_t : Bool) × (b ≡ between has_t)
between_there b h = there_case b (eqb b 32) refl h

-- a T, behind which no letter stands, or a blank
between_first : (has_t : Bool) (total b : ℕ) (bs : List ℕ) → is_ascii_digit b ≡ true → kinds (tokens_of total (between has_t ∷ b ∷ bs)) ≡ spelled_t has_t ++ kinds (tokens_of total (b ∷ bs))
unfolding more kind_of
between_first true total b bs e = first_kind total 84 (b ∷ bs) refl ∙ rw (digit_no_letter b e) refl
between_first false total b bs e = ap kinds (blank_first total (b ∷ bs))

between_no_digit : (has_t : Bool) (bs : List ℕ) → prefix_len is_ascii_digit (between has_t ∷ bs) ≡ 0
between_no_digit true bs = refl
between_no_digit false bs = refl

date_kinds : (total y1 y2 y3 y4 m1 m2 d1 d2 : ℕ) (bs : List ℕ) → Pair y1 y2 → Pair y3 y4 → Pair m1 m2 → Pair d1 d2 → prefix_len is_ascii_digit bs ≡ 0
    → kinds (tokens_of total (y1 ∷ y2 ∷ y3 ∷ y4 ∷ 45 ∷ m1 ∷ m2 ∷ 45 ∷ d1 ∷ d2 ∷ bs))
    ≡ spelled_date (Dashed (decimal_from 0 (y1 ∷ y2 ∷ y3 ∷ y4 ∷ [])) (pair m1 m2) (pair d1 d2)) ++ kinds (tokens_of total bs)
date_kinds total y1 y2 y3 y4 m1 m2 d1 d2 bs p q r s last =
    rw (
      four_digits total y1 y2 y3 y4 (45 ∷ m1 ∷ m2 ∷ 45 ∷ d1 ∷ d2 ∷ bs) p q refl,
      dash_first total (m1 ∷ m2 ∷ 45 ∷ d1 ∷ d2 ∷ bs),
      two_digits total m1 m2 (45 ∷ d1 ∷ d2 ∷ bs) r refl,
      dash_first total (d1 ∷ d2 ∷ bs),
      two_digits total d1 d2 bs s last,
    ) refl

clock_kinds : (total h1 h2 n1 n2 : ℕ) → Pair h1 h2 → Pair n1 n2
    → kinds (tokens_of total (h1 ∷ h2 ∷ 58 ∷ n1 ∷ n2 ∷ [])) ≡ spelled_time (Minutes (pair h1 h2) (pair n1 n2))
unfolding tokens_of tokens
clock_kinds total h1 h2 n1 n2 p q =
    rw (two_digits total h1 h2 (58 ∷ n1 ∷ n2 ∷ []) p refl, colon_first total (n1 ∷ n2 ∷ []), two_digits total n1 n2 [] q refl) refl

-- the phrase of four digits, a dash, two, a dash, two, a T or a blank, two, a colon and two
pub sixteen_kinds : (has_t : Bool) (y1 y2 y3 y4 m1 m2 d1 d2 h1 h2 n1 n2 : ℕ) → Pair y1 y2 → Pair y3 y4 → Pair m1 m2 → Pair d1 d2 → Pair h1 h2 → Pair n1 n2
    → let form : PlainPhrase = record { date = Dashed (decimal_from 0 (y1 ∷ y2 ∷ y3 ∷ y4 ∷ [])) (pair m1 m2) (pair d1 d2); has_t = has_t; time = Minutes (pair h1 h2) (pair n1 n2); half = None } in
    kinds (phrase_tokens (y1 ∷ y2 ∷ y3 ∷ y4 ∷ 45 ∷ m1 ∷ m2 ∷ 45 ∷ d1 ∷ d2 ∷ between has_t ∷ h1 ∷ h2 ∷ 58 ∷ n1 ∷ n2 ∷ [])) ≡ spelled form
sixteen_kinds has_t y1 y2 y3 y4 m1 m2 d1 d2 h1 h2 n1 n2 p q r s t u =
    rw (
      date_kinds 16 y1 y2 y3 y4 m1 m2 d1 d2 (between has_t ∷ h1 ∷ h2 ∷ 58 ∷ n1 ∷ n2 ∷ []) p q r s (between_no_digit has_t (h1 ∷ h2 ∷ 58 ∷ n1 ∷ n2 ∷ [])),
      between_first has_t 16 h1 (h2 ∷ 58 ∷ n1 ∷ n2 ∷ []) t.0,
      clock_kinds 16 h1 h2 n1 n2 t u,
    ) refl

-- it is read as the date and the clock time of its numbers
pub sixteen_read : (dialect : Dialect) (has_t : Bool) (y1 y2 y3 y4 m1 m2 d1 d2 h1 h2 n1 n2 : ℕ) → Pair y1 y2 → Pair y3 y4 → Pair m1 m2 → Pair d1 d2 → Pair h1 h2 → Pair n1 n2
    → (phrase : List ℕ) → phrase ≡ y1 ∷ y2 ∷ y3 ∷ y4 ∷ 45 ∷ m1 ∷ m2 ∷ 45 ∷ d1 ∷ d2 ∷ between has_t ∷ h1 ∷ h2 ∷ 58 ∷ n1 ∷ n2 ∷ []
    → IsReadAsNamed dialect phrase (date_of (decimal_from 0 (y1 ∷ y2 ∷ y3 ∷ y4 ∷ [])) (pair m1 m2) (pair d1 d2)) (clock (pair h1 h2) (pair n1 n2) 0 0)
sixteen_read dialect has_t y1 y2 y3 y4 m1 m2 d1 d2 h1 h2 n1 n2 p q r s t u phrase e =
    let form : PlainPhrase = record { date = Dashed (decimal_from 0 (y1 ∷ y2 ∷ y3 ∷ y4 ∷ [])) (pair m1 m2) (pair d1 d2); has_t = has_t; time = Minutes (pair h1 h2) (pair n1 n2); half = None } in
    let spelling : kinds (phrase_tokens phrase) ≡ spelled form = ap (λ (bs : List ℕ). kinds (phrase_tokens bs)) e ∙ sixteen_kinds has_t y1 y2 y3 y4 m1 m2 d1 d2 h1 h2 n1 n2 p q r s t u in
    record {
      parts = form_read dialect form (phrase_tokens phrase) (date_of (decimal_from 0 (y1 ∷ y2 ∷ y3 ∷ y4 ∷ [])) (pair m1 m2) (pair d1 d2)) (clock (pair h1 h2) (pair n1 n2) 0 0) spelling refl refl;
      no_offset = refl;
      no_fraction = refl;
    }
