-- Phrases of a count of units ago, and of a weekday and an hour, are read as their numbers and words.
use Rattle.std.proofs.Common.{◌≡◌, ℕ, zero, suc, ℤ, sym, get_or, ◌≤◌, List, [], ◌∷◌, take, drop, length, min, codes, Option, Some, None, Ok, Bool, true, false, cond, pos, neg_ℤ, refl, ap, ◌∙◌, arith}
use Rattle.std.proofs.lemmas.Bool.Decides.{nat_tests}
use Rattle.std.proofs.lemmas.Int.{ints}
use Rattle.std.proofs.Common.{is_some, ◌<◌, ◌-ℤ◌, to_z, of_z, w32}
use Rattle.std.proofs.lemmas.List.Sums.{take_while-cons}
use Rattle.std.specs.Prelude.{take_while}
use Rattle.interim.specs.declared.types.Dialect.{Dialect}
use Rattle.interim.specs.declared.types.DateSpec.TheVariants.{Relative, FromName}
use Rattle.interim.specs.declared.types.ByName.TheVariants as by_name
use Rattle.interim.specs.declared.types.Direction.{Direction}
use Rattle.interim.specs.declared.types.Direction.TheVariants.{Here}
use Rattle.interim.specs.declared.types.Interval.{Interval}
use Rattle.interim.specs.declared.words.Half.{Half}
use Rattle.interim.specs.Grammar.{parts_of, both_parts}
use Rattle.interim.specs.Intervals.{scaled}
use Rattle.interim.specs.Parts.{clock, shifted}
use Rattle.interim.specs.ReadingSteps.{follows}
use Rattle.interim.specs.DatePart.{date_part, first, head}
use Rattle.interim.specs.NumberHeads.{number_head, number_then_word}
use Rattle.interim.specs.CountedDates.{units_on}
use Rattle.interim.specs.WordHeads.{word_head}
use Rattle.interim.specs.OpenHours.{after_hour}
use Rattle.interim.specs.TimePart.{time_part, whole_time}
use Rattle.interim.specs.TokenKinds.{Token, Kind, Number, Word}
use Rattle.std.specs.Char.{is_ascii_digit}
use Rattle.interim.specs.Characters.{decimal_from, is_blank, is_letter, run_len}
use Rattle.interim.specs.Tokens.{more, kind_of, split_at, tokens, tokens_of}
use Rattle.interim.specs.CalendarNames.{counted, weekday_from}
use Rattle.interim.specs.Words.{day_of_word, direction_of, half_of, is_ago, month_of, unit_of, weekday_of}
use Rattle.interim.specs.PlainDates.{kinds}
use Rattle.interim.specs.declared.words.Half.TheVariants.{Am, Pm}
use Rattle.interim.specs.Inside.ReadAs.{IsReadAs, half_text}
use Rattle.interim.specs.Tokens.{phrase_tokens}
use Rattle.interim.proofs.PlainBytes.{blank_first, digit_no_blank, first_kind}
use Rattle.interim.proofs.PlainReading.{apart, placed_kinds}

-- ---- tokens

number_first : (total b n : ℕ) (bs : List ℕ) → is_ascii_digit b ≡ true → n ≡ min 3 (run_len is_ascii_digit bs)
    → kinds (tokens_of total (b ∷ bs)) ≡ Number (decimal_from 0 (b ∷ take n bs)) ∷ kinds (tokens_of total (drop n bs))
unfolding more kind_of
number_first total b n bs e len = first_kind total b bs (digit_no_blank b e) ∙ rw (e, ← len) refl

letter_no_blank : (b : ℕ) → is_letter b ≡ true → is_blank b ≡ false
letter_no_blank b e = grind (arith, nat_tests)

letter_no_digit : (b : ℕ) → is_letter b ≡ true → is_ascii_digit b ≡ false
letter_no_digit b e = grind (arith, nat_tests)

word_case : (total n b : ℕ) (bs : List ℕ) (p : Bool) → is_letter b ≡ p → n ≡ length (cond p (b ∷ take_while is_letter bs) []) → 1 ≤ n
    → kinds (tokens_of total (b ∷ bs)) ≡ Word (take n (b ∷ bs)) ∷ kinds (tokens_of total (drop n (b ∷ bs)))
unfolding more kind_of
word_case total n b bs true e len some = rw len (first_kind total b bs (letter_no_blank b e) ∙ rw (letter_no_digit b e, e) refl)
word_case total n b bs false e len some = absurd (omega arith)

-- letters at the front, of which there is one at least
word_first : (total n : ℕ) (bs : List ℕ) → n ≡ run_len is_letter bs → 1 ≤ n
    → kinds (tokens_of total bs) ≡ Word (take n bs) ∷ kinds (tokens_of total (drop n bs))
word_first total n [] len some = absurd (omega arith)
word_first total n (b ∷ bs) len some =
    word_case total n b bs (is_letter b) refl (len ∙ ap length (take_while-cons is_letter b bs)) some

ago_last : (total : ℕ) → kinds (tokens_of total (codes " ago")) ≡ Word (codes "ago") ∷ []
unfolding tokens_of tokens split_at more kind_of
ago_last total = refl

-- ---- words

unit_has_letters : (n : ℕ) (bs : List ℕ) (u : Interval) → unit_of (take n bs) ≡ Some u → 1 ≤ n
unfolding unit_of
unit_has_letters zero bs u e = absurd (cc)
unit_has_letters (suc n) bs u e = omega arith

weekday_has_letters : (n : ℕ) (bs : List ℕ) (d : ℕ) → weekday_of (take n bs) ≡ Some d → 1 ≤ n
unfolding weekday_of
weekday_has_letters zero bs d e = absurd (cc)
weekday_has_letters (suc n) bs d e = omega arith

-- a word that names a weekday names no day, no direction and no month
weekday_is_no_day : (word : List ℕ) (d : ℕ) → weekday_of word ≡ Some d → let none : Option ℤ = None in day_of_word word ≡ none
unfolding weekday_of day_of_word
weekday_is_no_day word d e =
    let rule : List ℕ → Option ℕ = λ w. weekday_from (take 3 w) in
    rw (apart rule (counted word) (codes "now") d refl e, apart rule (counted word) (codes "today") d refl e, apart rule (counted word) (codes "yesterday") d refl e, apart rule (counted word) (codes "tomorrow") d refl e) refl

weekday_is_no_direction : (word : List ℕ) (d : ℕ) → weekday_of word ≡ Some d → let none : Option Direction = None in direction_of word ≡ none
unfolding weekday_of direction_of
weekday_is_no_direction word d e =
    let rule : List ℕ → Option ℕ = λ w. weekday_from (take 3 w) in
    rw (apart rule (counted word) (codes "next") d refl e, apart rule (counted word) (codes "last") d refl e, apart rule (counted word) (codes "this") d refl e) refl

weekday_is_no_month : (word : List ℕ) (d : ℕ) → weekday_of word ≡ Some d → let none : Option ℕ = None in month_of word ≡ none
unfolding weekday_of month_of
weekday_is_no_month word d e =
    let front = take 3 (counted word) in
    rw (
      apart weekday_from front (codes "jan") d refl e,
      apart weekday_from front (codes "feb") d refl e,
      apart weekday_from front (codes "mar") d refl e,
      apart weekday_from front (codes "apr") d refl e,
      apart weekday_from front (codes "may") d refl e,
      apart weekday_from front (codes "jun") d refl e,
      apart weekday_from front (codes "jul") d refl e,
      apart weekday_from front (codes "aug") d refl e,
      apart weekday_from front (codes "sep") d refl e,
      apart weekday_from front (codes "oct") d refl e,
      apart weekday_from front (codes "nov") d refl e,
      apart weekday_from front (codes "dec") d refl e,
    ) refl

-- ---- phrases

back_read : (dialect : Dialect) (n : ℕ) (word : List ℕ) (unit : Interval) (ts : List Token) → kinds ts ≡ Number n ∷ Word word ∷ Word (codes "ago") ∷ []
    → (let none : Option ℕ = None in month_of word ≡ none) → unit_of word ≡ Some unit
    → parts_of dialect ts ≡ Ok (record { date = Some (Relative (scaled unit (neg_ℤ (pos n)))); time = None })
unfolding parts_of both_parts date_part first head number_head number_then_word units_on is_ago time_part whole_time follows
back_read dialect n word unit ts spelling no_month is_unit =
    rw (← placed_kinds ts (Number n ∷ Word word ∷ Word (codes "ago") ∷ []) spelling) (rw (no_month, is_unit) refl)

weekday_read : (dialect : Dialect) (word name : List ℕ) (day hour : ℕ) (half : Half) (ts : List Token) → kinds ts ≡ Word word ∷ Number hour ∷ Word name ∷ []
    → weekday_of word ≡ Some day → half_of name ≡ Some half
    → parts_of dialect ts ≡ Ok (record { date = Some (FromName (by_name.WeekDay day) Here); time = Some (clock (shifted half hour) 0 0 0) })
unfolding parts_of both_parts date_part first head word_head time_part whole_time follows after_hour
weekday_read dialect word name day hour half ts spelling is_day is_half =
    rw (← placed_kinds ts (Word word ∷ Number hour ∷ Word name ∷ []) spelling)
    (rw (weekday_is_no_day word day is_day, weekday_is_no_direction word day is_day, weekday_is_no_month word day is_day, is_day, is_half) refl)

-- the bytes of am or pm, and nothing behind them
pub record IsHalf (bs : List ℕ) (half : Half) : Type 0 where
  pub named : half_of bs ≡ Some half
  pub alone : (total : ℕ) → kinds (tokens_of total bs) ≡ Word bs ∷ []

half_is : (half : Half) → IsHalf (half_text half) half
unfolding half_of tokens_of tokens split_at more kind_of
half_is Am = record { named = refl; alone = λ total. refl }
half_is Pm = record { named = refl; alone = λ total. refl }

pub half_there : (bs : List ℕ) (half : Half) → bs ≡ half_text half → IsHalf bs half
half_there bs half e = rw e (half_is half)

one_front : (bs : List ℕ) → 1 ≤ length bs → bs ≡ get_or bs 0 0 ∷ drop 1 bs
one_front [] h = absurd (omega arith)
one_front (a ∷ bs) h = refl

two_front : (bs : List ℕ) → 2 ≤ length bs → bs ≡ get_or bs 0 0 ∷ get_or bs 1 0 ∷ drop 2 bs
two_front [] h = absurd (omega arith)
two_front (a ∷ []) h = absurd (omega arith)
two_front (a ∷ b ∷ bs) h = refl

abbrev kinds_in : ℕ → List ℕ → List Kind
kinds_in total bs = kinds (tokens_of total bs)

-- a weekday, a blank, an hour, and am or pm behind it
pub weekday_is : (phrase rest after last : List ℕ) (len n hour day : ℕ) (half : Half) → rest ≡ drop len phrase → after ≡ drop 2 rest → last ≡ drop n after
    → len ≡ run_len is_letter phrase → Some day ≡ weekday_of (take len phrase) → 2 ≤ length rest → get_or rest 0 0 ≡ 32 → is_ascii_digit (get_or rest 1 0) ≡ true
    → n ≡ min 3 (run_len is_ascii_digit after) → hour ≡ decimal_from 0 (get_or rest 1 0 ∷ take n after) → IsHalf last half
    → IsReadAs phrase (Some (FromName (by_name.WeekDay day) Here)) (Some (clock (shifted half hour) 0 0 0))
weekday_is phrase rest after last len n hour day half is_rest is_after is_last is_len is_day some blank digit is_n is_hour is_half =
    let total = length phrase in
    let digit1 = get_or rest 1 0 in
    let front : drop len phrase ≡ 32 ∷ digit1 ∷ after = sym is_rest ∙ two_front rest some ∙ rw (blank, is_after) refl in
    let spelling : kinds (phrase_tokens phrase) ≡ Word (take len phrase) ∷ Number hour ∷ Word last ∷ [] =
    word_first total len phrase is_len (weekday_has_letters len phrase day (sym is_day))
    ∙ ap (λ (ks : List Kind). Word (take len phrase) ∷ ks) (ap (kinds_in total) front ∙ ap kinds (blank_first total (digit1 ∷ after)) ∙ number_first total digit1 n after digit is_n)
    ∙ rw (← is_hour, ← is_last, is_half.alone total) refl in
    λ dialect. weekday_read dialect (take len phrase) last day hour half (phrase_tokens phrase) spelling (sym is_day) is_half.named

-- a number, a blank, a unit, and ago behind it
pub back_is : (phrase after rest words last : List ℕ) (n count len : ℕ) (unit : Interval) → 1 ≤ length phrase → after ≡ drop 1 phrase → rest ≡ drop n after → 1 ≤ length rest
    → words ≡ drop 1 rest → last ≡ drop len words → is_ascii_digit (get_or phrase 0 0) ≡ true → n ≡ min 3 (run_len is_ascii_digit after) → count ≡ decimal_from 0 (get_or phrase 0 0 ∷ take n after)
    → get_or rest 0 0 ≡ 32 → len ≡ run_len is_letter words → last ≡ codes " ago"
    → (let none : Option ℕ = None in month_of (take len words) ≡ none) → Some unit ≡ unit_of (take len words)
    → IsReadAs phrase (Some (Relative (scaled unit (neg_ℤ (pos count))))) None
back_is phrase after rest words last n count len unit some is_after is_rest more is_words is_last digit is_n is_count blank is_len ago no_month is_unit =
    let total = length phrase in
    let digit1 = get_or phrase 0 0 in
    let front : phrase ≡ digit1 ∷ after = one_front phrase some ∙ rw is_after refl in
    let behind : drop n after ≡ 32 ∷ words = sym is_rest ∙ one_front rest more ∙ rw (blank, is_words) refl in
    let spelling : kinds_in total phrase ≡ Number count ∷ Word (take len words) ∷ Word (codes "ago") ∷ [] =
    ap (kinds_in total) front ∙ number_first total digit1 n after digit is_n
    ∙ ap (λ (ks : List Kind). Number (decimal_from 0 (digit1 ∷ take n after)) ∷ ks) (ap (kinds_in total) behind ∙ ap kinds (blank_first total words) ∙ word_first total len words is_len (unit_has_letters len words unit (sym is_unit)))
    ∙ rw (← is_count, ← is_last, ago, ago_last total) refl in
    λ dialect. back_read dialect count (take len words) unit (phrase_tokens phrase) spelling no_month (sym is_unit)

-- what back_is takes of the month and of the count
pub no_month : (o m : Option ℕ) (some : Bool) → o ≡ m → some ≡ is_some o → some ≡ false → let none : Option ℕ = None in m ≡ none
no_month None m some e is off = sym e
no_month (Some n) m some e is off = absurd (cc)

pub back_count : (n : ℕ) (z : ℤ) → z ≡ pos n → n < 65536 → to_z w32 (of_z w32 (pos 0 -ℤ to_z w32 (of_z w32 z))) ≡ neg_ℤ (pos n)
back_count n z e small = rw e (omega (arith, ints))
