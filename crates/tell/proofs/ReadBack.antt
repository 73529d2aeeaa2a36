-- What is told of a distance can be read back.
use Rattle.std.proofs.Common.{◌≡◌, ℕ, suc, ◌-◌, ◌<◌, ◌≤◌, ◌==◌, pos, neg_ℤ, List, [], ◌∷◌, ◌++◌, length, Some, None, Ok, refl, ap, ◌∙◌, Bool, true, false, if◌then◌else◌, arith, codes, decimal, append_assoc, length-append}
use Rattle.tongues.specs.Units.{unit_size}
use Rattle.tongues.specs.GermanicLanguages.{english}
use Rattle.tongues.specs.declared.unit.TimeUnit.{TimeUnit}
use Rattle.tongues.specs.declared.unit.TimeUnit.TheVariants as u
use Rattle.timeago.specs.Laws.{DefaultTexts}
use Rattle.interim.specs.declared.errors.Span.{Span}
use Rattle.interim.specs.declared.types.Dialect.{Dialect}
use Rattle.interim.specs.declared.types.Dialect.TheVariants.{Uk}
use Rattle.interim.specs.declared.types.Interval.{Interval}
use Rattle.interim.specs.declared.types.DateSpec.TheVariants.{Relative}
use Rattle.interim.specs.Intervals.{scaled}
use Rattle.interim.specs.DatePart.{date_part, first, head}
use Rattle.interim.specs.NumberHeads.{number_head, number_then_word}
use Rattle.interim.specs.CountedDates.{units_on}
use Rattle.interim.specs.Grammar.{both_parts, parts_of, duration_of, interval_of}
use Rattle.interim.specs.ReadingSteps.{follows}
use Rattle.interim.specs.TimePart.{time_part, whole_time}
use Rattle.interim.specs.TokenKinds.{Token, Number, Word}
use Rattle.interim.specs.Tokens.{more, kind_of, split_at, tokens, tokens_of, phrase_tokens}
use Rattle.interim.specs.Words.{month_of, unit_of, is_ago}
use Rattle.tell.specs.ReadBack.{ToldWordsAreReadBack, SaysBack, interval_of_unit}
use Rattle.tell.proofs.ReadBackTokens.{at, number_tokens}

-- a word that is told of a unit behind a count: one token before `ago`, no month, and the unit's interval
pub record IsToldWord (unit : TimeUnit) (word : List ℕ) : Type 0 where
  interval : Interval
  of_unit : interval_of_unit unit ≡ Some interval
  alone : (steps total : ℕ) → (s : Span) × (r : Span)
      × (tokens (suc (suc (suc steps))) total (32 ∷ (word ++ codes " ago")) ≡ at (Word word) s ∷ at (Word (codes "ago")) r ∷ [])
  no_month : month_of word ≡ None
  same_unit : unit_of word ≡ Some interval

-- the words of seconds to years, for one and for more
pub told_word : (unit : TimeUnit) (one : Bool) → unit_size u.Seconds ≤ unit_size unit
    → IsToldWord unit (if one then english.word unit 1 else english.word unit 2)
unfolding tokens split_at more kind_of month_of unit_of
told_word u.Nanoseconds one h = absurd (omega arith)
told_word u.Microseconds one h = absurd (omega arith)
told_word u.Milliseconds one h = absurd (omega arith)
told_word unit true h = record { interval = _; of_unit = refl; alone = λ steps total. (_, _, refl); no_month = refl; same_unit = refl }
told_word unit false h = record { interval = _; of_unit = refl; alone = λ steps total. (_, _, refl); no_month = refl; same_unit = refl }

-- ---- the tokens of a told count

told_tokens : (n : ℕ) (unit : TimeUnit) (word : List ℕ) → n < 10000 → IsToldWord unit word
    → (s : Span) × (r : Span) × (q : Span)
    × (phrase_tokens (decimal n ++ 32 ∷ (word ++ codes " ago")) ≡ at (Number n) s ∷ at (Word word) r ∷ at (Word (codes "ago")) q ∷ [])
unfolding tokens_of
told_tokens n unit word small is =
    let phrase : List ℕ = decimal n ++ 32 ∷ (word ++ codes " ago") in
    let steps : length phrase ≡ suc (suc (suc (suc (length phrase - 4)))) = omega (arith, length-append (decimal n) (32 ∷ (word ++ codes " ago")), length-append word (codes " ago")) in
    let front = number_tokens (suc (suc (suc (length phrase - 4)))) n (length phrase) (word ++ codes " ago") small in
    let back = is.alone (length phrase - 4) (length phrase) in
    (front.0, back.0, back.1, ap (λ (k : ℕ). tokens k (length phrase) phrase) steps ∙ front.1 ∙ ap (λ (ts : List Token). at (Number n) front.0 ∷ ts) back.2)

-- ---- their parts

parts_back : (dialect : Dialect) (n : ℕ) (unit : TimeUnit) (word : List ℕ) → n < 10000 → (is : IsToldWord unit word)
    → parts_of dialect (phrase_tokens (decimal n ++ 32 ∷ (word ++ codes " ago")))
    ≡ Ok (record { date = Some (Relative (scaled is.interval (neg_ℤ (pos n)))); time = None })
unfolding parts_of both_parts date_part first head number_head number_then_word units_on is_ago time_part whole_time follows
parts_back dialect n unit word small is =
    let ts = told_tokens n unit word small is in
    ap (parts_of dialect) ts.3 ∙ rw (is.no_month, is.same_unit) refl

pub says_back : (phrase : List ℕ) (n : ℕ) (unit : TimeUnit) (word : List ℕ) → phrase ≡ decimal n ++ codes " " ++ word ++ codes " ago"
    → n < 10000 → IsToldWord unit word → SaysBack phrase unit n
unfolding duration_of
says_back phrase n unit word same small is = rw same (simp append_assoc (record {
  interval = is.interval;
  of_unit = is.of_unit;
  parts = λ dialect. parts_back dialect n unit word small is;
  duration = ap interval_of (parts_back Uk n unit word small is);
}))

pub told_words_are_read_back : DefaultTexts → ToldWordsAreReadBack
told_words_are_read_back texts distance text low high words =
    let (unit, count, is, same) = texts false distance text low high words in
    (unit, count, is, says_back text count unit _ same is.four_digits (told_word unit (count == 1) is.from_seconds))
