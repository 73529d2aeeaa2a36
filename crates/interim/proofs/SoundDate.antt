-- Date parts have small numbers, and faults at tokens.
use Rattle.std.proofs.Common.{ℕ, ◌*◌, ◌<◌, ◌≤◌, ◌||◌, List, [], ◌∷◌, take, codes, Option, Some, None, Bool, true, false, cond, arith, MatchOption, ℤ, pos, negsuc, neg_ℤ, unsigned_abs}
use Rattle.std.specs.Str.{bytes_eq}
use Rattle.std.proofs.Math.Nat.{mul-le-mul_right}
use Rattle.std.proofs.lemmas.Bool.Decides.{nat_tests}
use Rattle.std.proofs.lemmas.Int.{unsigned_abs-mul, ints}
use Rattle.interim.specs.declared.errors.Expected.TheVariants as expected
use Rattle.interim.specs.declared.errors.Span.{Span}
use Rattle.interim.specs.declared.types.ByName.TheVariants as by_name
use Rattle.interim.specs.declared.types.DateSpec.TheVariants.{Relative, FromName}
use Rattle.interim.specs.declared.types.Dialect.{Dialect}
use Rattle.interim.specs.declared.types.Dialect.TheVariants.{Uk, Us}
use Rattle.interim.specs.declared.types.Direction.{Direction}
use Rattle.interim.specs.declared.types.Direction.TheVariants.{Next, Last, Here}
use Rattle.interim.specs.declared.types.Interval.{Interval}
use Rattle.interim.specs.declared.types.Interval.TheVariants.{Seconds, Days, Months}
use Rattle.interim.specs.declared.date_part.Opening.{Opening}
use Rattle.interim.specs.declared.date_part.Opening.TheVariants.{Bare, Minus, Directed}
use Rattle.interim.specs.declared.date_part.DatePart.{DatePart}
use Rattle.interim.specs.declared.time_part.ClockFront.{ClockFront}
use Rattle.interim.specs.declared.time_part.ClockFront.TheVariants.{Nothing, OpenHour, FormalHour, InformalHour, LoneHour}
use Rattle.interim.specs.TokenLaws.{HasFewDigits}
use Rattle.interim.specs.PartLaws.{IsSmallDate, IsSmall}
use Rattle.interim.specs.Intervals.{count_of, scaled}
use Rattle.interim.specs.Parts.{date_of, full_year, shifted}
use Rattle.interim.specs.CalendarNames.{counted}
use Rattle.interim.specs.WordMeanings.{is_short_for}
use Rattle.interim.specs.Words.{month_of, weekday_of, unit_of, day_of_word, direction_of, half_of, is_ago}
use Rattle.interim.specs.TokenKinds.{Token, Kind, Number, Word, Dash, Slash, Colon, Dot, Comma, Plus, Unknown}
use Rattle.interim.specs.ReadingSteps.{number, dash, follows, following_number, pass_over}
use Rattle.interim.specs.NextTokens.{next, peek, refuse}
use Rattle.interim.specs.TokenTests.{is_comma, is_slash}
use Rattle.interim.specs.Steps.{Step, pure, ◌>>=◌}
use Rattle.interim.specs.DateForms.{dated, timed, absolute, day_and_month, direction_in}
use Rattle.interim.specs.WordHeads.{month_and_day, month_alone, month_head, directed_count, word_head}
use Rattle.interim.specs.NumberedDates.{number_alone, dashed, slashed, slashed_end, day_of_pair, month_of_pair, year_missing}
use Rattle.interim.specs.CountedDates.{day_month, times_back, times_on, unit_alone, unit_then, unit_then_kind, units_on, units}
use Rattle.interim.specs.NumberHeads.{number_then_word, undirected, number_then_kind, number_head}
use Rattle.interim.specs.DatePart.{signed_word_head, head_kind, head, first_word, first_kind, first, date_part}
use Rattle.interim.proofs.SoundSteps.{given_keeps, given_any_keeps, Holds, IfToken, Keeps, keeps_then, either_keeps, pure_keeps, number_keeps, following_keeps, dash_keeps, pass_keeps, peek_keeps, follows_keeps, next_keeps}
use Rattle.interim.proofs.SoundTime.{IsSmallFront, abs-neg, shifted_small}

-- ---- words

abbrev pub IfSo : {A : Type 0} → (A → Type 0) → Option A → Type 0
IfSo P o = MatchOption o (Unit {0}) P

-- the first value whose test passes
abbrev chosen : {A : Type 0} → List (Bool × A) → Option A
chosen [] = None
chosen (p ∷ ps) = cond p.0 (Some p.1) (chosen ps)

abbrev AllSo : {A : Type 0} → (A → Type 0) → List (Bool × A) → Type 0
AllSo P [] = Unit {0}
AllSo P (p ∷ ps) = P p.1 × AllSo P ps

cond_so : {A : Type 0} (P : A → Type 0) (v : Bool) (x y : Option A) → IfSo P x → IfSo P y → IfSo P (cond v x y)
cond_so P true x y h k = h
cond_so P false x y h k = k

-- what holds of each value holds of the chosen one
chosen_so : {A : Type 0} (P : A → Type 0) (ps : List (Bool × A)) → AllSo P ps → IfSo P (chosen ps)
chosen_so P [] h = tt
chosen_so P (p ∷ ps) h = cond_so P p.0 (Some p.1) (chosen ps) h.0 (chosen_so P ps h.1)

abbrev pub IsMonth : ℕ → Type 0
IsMonth m = (1 ≤ m) × (m ≤ 12)

abbrev pub IsUnit : Interval → Type 0
IsUnit unit = unsigned_abs (count_of unit) ≤ 3600

month_small : (word : List ℕ) → IfSo IsMonth (month_of word)
unfolding month_of
month_small word =
    let is : List ℕ → Bool = λ name. bytes_eq (take 3 (counted word)) name in
    chosen_so IsMonth ((is (codes "jan"), 1) ∷ (is (codes "feb"), 2) ∷ (is (codes "mar"), 3) ∷ (is (codes "apr"), 4) ∷ (is (codes "may"), 5) ∷ (is (codes "jun"), 6) ∷ (is (codes "jul"), 7) ∷ (is (codes "aug"), 8) ∷ (is (codes "sep"), 9) ∷ (is (codes "oct"), 10) ∷ (is (codes "nov"), 11) ∷ (is (codes "dec"), 12) ∷ [])
    ((omega arith, omega arith), ((omega arith, omega arith), ((omega arith, omega arith), ((omega arith, omega arith), ((omega arith, omega arith), ((omega arith, omega arith), ((omega arith, omega arith), ((omega arith, omega arith), ((omega arith, omega arith), ((omega arith, omega arith), ((omega arith, omega arith), ((omega arith, omega arith), tt))))))))))))

weekday_small : (word : List ℕ) → IfSo (λ n. n ≤ 6) (weekday_of word)
unfolding weekday_of
weekday_small word =
    let is : List ℕ → Bool = λ name. bytes_eq (take 3 (counted word)) name in
    chosen_so (λ n. n ≤ 6) ((is (codes "mon"), 0) ∷ (is (codes "tue"), 1) ∷ (is (codes "wed"), 2) ∷ (is (codes "thu"), 3) ∷ (is (codes "fri"), 4) ∷ (is (codes "sat"), 5) ∷ (is (codes "sun"), 6) ∷ [])
    (omega arith, (omega arith, (omega arith, (omega arith, (omega arith, (omega arith, (omega arith, tt)))))))

unit_small : (word : List ℕ) → IfSo IsUnit (unit_of word)
unfolding unit_of
unit_small word =
    let is : List ℕ → List ℕ → Bool = λ letter two. is_short_for (counted word) letter two in
    chosen_so IsUnit ((is (codes "s") (codes "se"), Seconds (pos 1)) ∷ (is (codes "m") (codes "mi"), Seconds (pos 60)) ∷ (is (codes "h") (codes "ho"), Seconds (pos 3600)) ∷ (is (codes "d") (codes "da"), Days (pos 1)) ∷ (is (codes "w") (codes "we"), Days (pos 7)) ∷ (bytes_eq (take 2 (counted word)) (codes "mo"), Months (pos 1)) ∷ (is (codes "y") (codes "ye"), Months (pos 12)) ∷ [])
    (omega arith, (omega arith, (omega arith, (omega arith, (omega arith, (omega arith, (omega arith, tt)))))))

day_small : (word : List ℕ) → IfSo (λ days. unsigned_abs days ≤ 1) (day_of_word word)
unfolding day_of_word
day_small word =
    let is : List ℕ → Bool = λ name. bytes_eq (counted word) name in
    chosen_so (λ days. unsigned_abs days ≤ 1) ((is (codes "now") || is (codes "today"), pos 0) ∷ (is (codes "yesterday"), negsuc 0) ∷ (is (codes "tomorrow"), pos 1) ∷ [])
    (omega arith, (omega arith, (omega arith, tt)))

-- ---- numbers

product_small : (a b : ℕ) → a ≤ 3600 → b ≤ 9999 → a * b ≤ 35996400
product_small a b h k = let most : a * b ≤ 3600 * b = mul-le-mul_right b h in omega arith

scaled_small : (unit : Interval) (k : ℤ) → IsUnit unit → unsigned_abs k ≤ 9999 → unsigned_abs (count_of (scaled unit k)) ≤ 35996400
scaled_small (Seconds n) k h p = rw (unsigned_abs-mul n k) (product_small (unsigned_abs n) (unsigned_abs k) h p)
scaled_small (Days n) k h p = rw (unsigned_abs-mul n k) (product_small (unsigned_abs n) (unsigned_abs k) h p)
scaled_small (Months n) k h p = rw (unsigned_abs-mul n k) (product_small (unsigned_abs n) (unsigned_abs k) h p)

full_small : (year : ℕ) → year < 10000 → full_year year < 10000
full_small year h = grind (arith, nat_tests)

date_small : (year month day : ℕ) → year < 10000 → month < 10000 → day < 10000 → IsSmallDate (date_of year month day)
date_small year month day y m d = record { first_year = omega (arith, ints); last_year = omega (arith, ints); month = m; day = d }

-- ---- date parts

abbrev pub HasClock : ClockFront → Type 0
HasClock Nothing = ⊥
HasClock front = Unit {0}

-- the numbers are small, and without a date something of a time has been read
abbrev pub IsSmallPart : DatePart → Type 0
IsSmallPart part = MatchOption part.date (HasClock part.clock) IsSmall × IsSmallFront part.clock

absolute_small : (year month day : ℕ) → year < 10000 → month < 10000 → day < 10000 → IsSmallPart (dated (absolute year month day))
absolute_small year month day y m d = (date_small year month day y m d, tt)

directed_small : (direction : Direction) → unsigned_abs (directed_count direction) ≤ 9999
directed_small Next = omega arith
directed_small Last = omega arith
directed_small Here = omega arith

pair_small : (dialect : Dialect) (a b : ℕ) → a < 10000 → b < 10000 → (day_of_pair dialect a b < 10000) × (month_of_pair dialect a b < 10000)
pair_small Uk a b h k = (h, k)
pair_small Us a b h k = (k, h)

back_small : (unit : Interval) (n : ℕ) → IsUnit unit → n < 10000 → IsSmallPart (times_back unit n)
back_small unit n h k = (scaled_small unit (neg_ℤ (pos n)) h (rw (abs-neg n) (omega arith)), tt)

on_small : (unit : Interval) (n : ℕ) (front : ClockFront) → IsUnit unit → n < 10000 → IsSmallFront front → IsSmallPart (times_on unit n front)
on_small unit n front h k f = (scaled_small unit (pos n) h (omega arith), f)

module _ (Inside : Span → Type 0) where
  abbrev KeepsPart : Step DatePart → Type 0
  KeepsPart step = Keeps Inside IsSmallPart step

  part_keeps : (part : DatePart) → IsSmallPart part → KeepsPart (pure part)
  part_keeps part h = pure_keeps Inside IsSmallPart part h

  -- a word at the head

  month_and_day_keeps : (month : ℕ) (direction : Direction) (day : ℕ) → IsMonth month → day < 10000 → KeepsPart (month_and_day month direction day)
  month_and_day_keeps month direction day m d =
      keeps_then Inside (λ (_ : Bool). Unit {0}) IsSmallPart (follows is_comma) _ (follows_keeps Inside is_comma) (λ v _.
      either_keeps Inside IsSmallPart v _ (pure (dated (day_and_month day month direction)))
      (keeps_then Inside (λ n. n < 10000) IsSmallPart number _ (number_keeps Inside) (λ year y. part_keeps (dated (absolute year month day)) (absolute_small year month day y (omega (arith, m.1)) d)))
      (part_keeps (dated (day_and_month day month direction)) ((d, omega (arith, m.1)), tt)))

  month_alone_keeps : (month : ℕ) (direction : Direction) → IsMonth month → KeepsPart (month_alone month direction)
  month_alone_keeps month direction m =
      keeps_then Inside (λ (_ : Unit {0}). Unit {0}) IsSmallPart pass_over _ (pass_keeps Inside) (λ _ _. part_keeps (dated (FromName (by_name.MonthName month) direction)) (m, tt))

  month_head_keeps : (month : ℕ) (direction : Direction) → IsMonth month → KeepsPart (month_head month direction)
  unfolding month_head
  month_head_keeps month direction m =
      keeps_then Inside (λ (n : Option ℕ). IfSo (λ k. k < 10000) n) IsSmallPart following_number _ (following_keeps Inside) (λ day d.
      given_keeps Inside (λ k. k < 10000) IsSmallPart day (month_and_day month direction) (month_alone month direction) d (λ n p. month_and_day_keeps month direction n m p) (month_alone_keeps month direction m))

  word_head_keeps : (direction : Direction) (t : Token) (word : List ℕ) → Inside t.span → KeepsPart (word_head direction t word)
  unfolding word_head
  word_head_keeps direction t word i =
      given_keeps Inside IsMonth IsSmallPart (month_of word) _ _ (month_small word) (λ month m. month_head_keeps month direction m)
      (given_keeps Inside (λ n. n ≤ 6) IsSmallPart (weekday_of word) _ _ (weekday_small word) (λ weekday n. part_keeps (dated (FromName (by_name.WeekDay weekday) direction)) (n, tt))
      (given_keeps Inside IsUnit IsSmallPart (unit_of word) _ (refuse expected.Identifier t) (unit_small word)
      (λ unit u. part_keeps (dated (Relative (scaled unit (directed_count direction)))) (scaled_small unit (directed_count direction) u (directed_small direction), tt)) (λ ts all. i)))

  -- a number at the head

  number_alone_keeps : (opening : Opening) (n : ℕ) → n < 10000 → KeepsPart (number_alone opening n)
  number_alone_keeps Bare n h = part_keeps (dated (absolute n 1 1)) (absolute_small n 1 1 h (omega arith) (omega arith))
  number_alone_keeps Minus n h = λ ts all. tt
  number_alone_keeps (Directed direction) n h = λ ts all. tt

  dashed_keeps : (year : ℕ) → year < 10000 → KeepsPart (dashed year)
  unfolding dashed
  dashed_keeps year y =
      keeps_then Inside (λ n. n < 10000) IsSmallPart number _ (number_keeps Inside) (λ month m.
      keeps_then Inside (λ (_ : Unit {0}). Unit {0}) IsSmallPart dash _ (dash_keeps Inside) (λ _ _.
      keeps_then Inside (λ n. n < 10000) IsSmallPart number _ (number_keeps Inside) (λ day d. part_keeps (dated (absolute year month day)) (absolute_small year month day y m d))))

  slashed_end_keeps : (has_year : Bool) (month day : ℕ) (direction : Direction) → month < 10000 → day < 10000 → KeepsPart (slashed_end month day direction has_year)
  slashed_end_keeps true month day direction m d =
      keeps_then Inside (λ n. n < 10000) IsSmallPart number _ (number_keeps Inside) (λ year y. part_keeps (dated (absolute (full_year year) month day)) (absolute_small (full_year year) month day (full_small year y) m d))
  slashed_end_keeps false month day direction m d = part_keeps (dated (day_and_month day month direction)) ((d, m), tt)

  slashed_keeps : (dialect : Dialect) (direction : Direction) (a : ℕ) → a < 10000 → KeepsPart (slashed dialect direction a)
  unfolding slashed
  slashed_keeps dialect direction a h =
      keeps_then Inside (λ n. n < 10000) IsSmallPart number _ (number_keeps Inside) (λ b k.
      keeps_then Inside (λ (_ : Bool). Unit {0}) IsSmallPart (follows is_slash) _ (follows_keeps Inside is_slash) (λ v _.
      slashed_end_keeps v (month_of_pair dialect a b) (day_of_pair dialect a b) direction (pair_small dialect a b h k).1 (pair_small dialect a b h k).0))

  year_missing_keeps : (day month : ℕ) (direction : Direction) → day < 10000 → IsMonth month → KeepsPart (year_missing day month direction)
  year_missing_keeps day month direction d m =
      keeps_then Inside (λ (_ : Unit {0}). Unit {0}) IsSmallPart pass_over _ (pass_keeps Inside) (λ _ _. part_keeps (dated (day_and_month day month direction)) ((d, omega (arith, m.1)), tt))

  day_month_keeps : (day month : ℕ) (direction : Direction) → day < 10000 → IsMonth month → KeepsPart (day_month day month direction)
  unfolding day_month
  day_month_keeps day month direction d m =
      keeps_then Inside (λ (n : Option ℕ). IfSo (λ k. k < 10000) n) IsSmallPart following_number _ (following_keeps Inside) (λ year y.
      given_keeps Inside (λ k. k < 10000) IsSmallPart year (λ n. pure (dated (absolute n month day))) (year_missing day month direction) y
      (λ n p. part_keeps (dated (absolute n month day)) (absolute_small n month day p (omega (arith, m.1)) d)) (year_missing_keeps day month direction d m))

  unit_alone_keeps : (unit : Interval) (n : ℕ) → IsUnit unit → n < 10000 → KeepsPart (unit_alone unit n)
  unit_alone_keeps unit n u h =
      keeps_then Inside (λ (_ : Unit {0}). Unit {0}) IsSmallPart pass_over _ (pass_keeps Inside) (λ _ _. part_keeps (times_on unit n Nothing) (on_small unit n Nothing u h tt))

  unit_kind_keeps : (k : Kind) (unit : Interval) (n : ℕ) (t : Token) → IsUnit unit → n < 10000 → HasFewDigits k → Inside t.span → KeepsPart (unit_then_kind unit n t k)
  unit_kind_keeps (Word word) unit n t u h d i =
      keeps_then Inside (IfToken Inside) IsSmallPart next (λ _. cond (is_ago word) (pure (times_back unit n)) (refuse expected.Ago t)) (next_keeps Inside) (λ _ _.
      either_keeps Inside IsSmallPart (is_ago word) (pure (times_back unit n)) (refuse expected.Ago t) (part_keeps (times_back unit n) (back_small unit n u h)) (λ ts all. i))
  unit_kind_keeps (Number hour) unit n t u h d i =
      keeps_then Inside (IfToken Inside) IsSmallPart next (λ _. pure (times_on unit n (OpenHour hour))) (next_keeps Inside) (λ _ _. part_keeps (times_on unit n (OpenHour hour)) (on_small unit n (OpenHour hour) u h d))
  unit_kind_keeps Dash unit n t u h d i = unit_alone_keeps unit n u h
  unit_kind_keeps Slash unit n t u h d i = unit_alone_keeps unit n u h
  unit_kind_keeps Colon unit n t u h d i = unit_alone_keeps unit n u h
  unit_kind_keeps Dot unit n t u h d i = unit_alone_keeps unit n u h
  unit_kind_keeps Comma unit n t u h d i = unit_alone_keeps unit n u h
  unit_kind_keeps Plus unit n t u h d i = unit_alone_keeps unit n u h
  unit_kind_keeps Unknown unit n t u h d i = unit_alone_keeps unit n u h

  unit_then_keeps : (t : Option Token) (unit : Interval) (n : ℕ) → IfToken Inside t → IsUnit unit → n < 10000 → KeepsPart (unit_then unit n t)
  unit_then_keeps None unit n i u h = unit_alone_keeps unit n u h
  unit_then_keeps (Some t) unit n i u h = unit_kind_keeps t.kind unit n t u h i.0 i.1

  units_on_keeps : (unit : Interval) (n : ℕ) → IsUnit unit → n < 10000 → KeepsPart (units_on unit n)
  unfolding units_on
  units_on_keeps unit n u h = keeps_then Inside (IfToken Inside) IsSmallPart peek (unit_then unit n) (peek_keeps Inside) (λ t i. unit_then_keeps t unit n i u h)

  units_keeps : (opening : Opening) (unit : Interval) (n : ℕ) → IsUnit unit → n < 10000 → KeepsPart (units opening unit n)
  units_keeps Minus unit n u h = part_keeps (times_back unit n) (back_small unit n u h)
  units_keeps Bare unit n u h = units_on_keeps unit n u h
  units_keeps (Directed direction) unit n u h = units_on_keeps unit n u h

  number_word_keeps : (opening : Opening) (n : ℕ) (t : Token) (word : List ℕ) → Inside t.span → n < 10000 → KeepsPart (number_then_word opening n t word)
  unfolding number_then_word
  number_word_keeps opening n t word i h =
      given_keeps Inside IsMonth IsSmallPart (month_of word) _ _ (month_small word) (λ month m. day_month_keeps n month (direction_in opening) h m)
      (given_keeps Inside IsUnit IsSmallPart (unit_of word) _ _ (unit_small word) (λ unit u. units_keeps opening unit n u h)
      (given_any_keeps Inside IsSmallPart (half_of word) _ (refuse expected.MonthOrUnit t) (λ half. part_keeps (timed (LoneHour (shifted half n))) (tt, shifted_small half n h)) (λ ts all. i)))

  undirected_keeps : (opening : Opening) (part : Step DatePart) → KeepsPart part → KeepsPart (undirected opening part)
  undirected_keeps Bare part h = h
  undirected_keeps Minus part h = h
  undirected_keeps (Directed direction) part h = λ ts all. tt

  number_kind_keeps : (k : Kind) (dialect : Dialect) (opening : Opening) (n : ℕ) (t : Token) → Inside t.span → n < 10000 → KeepsPart (number_then_kind dialect opening n t k)
  number_kind_keeps (Word word) dialect opening n t i h = number_word_keeps opening n t word i h
  number_kind_keeps Colon dialect opening n t i h = undirected_keeps opening _ (part_keeps (timed (FormalHour n)) (tt, h))
  number_kind_keeps Dot dialect opening n t i h = undirected_keeps opening _ (part_keeps (timed (InformalHour n)) (tt, h))
  number_kind_keeps Dash dialect opening n t i h = undirected_keeps opening (dashed n) (dashed_keeps n h)
  number_kind_keeps Slash dialect opening n t i h = slashed_keeps dialect (direction_in opening) n h
  number_kind_keeps (Number m) dialect opening n t i h = λ ts all. i
  number_kind_keeps Comma dialect opening n t i h = λ ts all. i
  number_kind_keeps Plus dialect opening n t i h = λ ts all. i
  number_kind_keeps Unknown dialect opening n t i h = λ ts all. i

  number_head_keeps : (t : Option Token) (dialect : Dialect) (opening : Opening) (n : ℕ) → IfToken Inside t → n < 10000 → KeepsPart (number_head dialect opening n t)
  unfolding number_head
  number_head_keeps None dialect opening n i h = number_alone_keeps opening n h
  number_head_keeps (Some t) dialect opening n i h = number_kind_keeps t.kind dialect opening n t i.1 h

  -- the first token, and the head

  signed_word_keeps : (opening : Opening) (t : Token) (word : List ℕ) → Inside t.span → KeepsPart (signed_word_head opening t word)
  signed_word_keeps Minus t word i = λ ts all. i
  signed_word_keeps Bare t word i = word_head_keeps Here t word i
  signed_word_keeps (Directed direction) t word i = word_head_keeps direction t word i

  head_kind_keeps : (k : Kind) (dialect : Dialect) (opening : Opening) (t : Token) → HasFewDigits k → Inside t.span → KeepsPart (head_kind dialect opening t k)
  head_kind_keeps (Number n) dialect opening t d i =
      keeps_then Inside (IfToken Inside) IsSmallPart next (number_head dialect opening n) (next_keeps Inside) (λ behind b. number_head_keeps behind dialect opening n b d)
  head_kind_keeps (Word word) dialect opening t d i = signed_word_keeps opening t word i
  head_kind_keeps Dash dialect opening t d i = λ ts all. tt
  head_kind_keeps Slash dialect opening t d i = λ ts all. tt
  head_kind_keeps Colon dialect opening t d i = λ ts all. tt
  head_kind_keeps Dot dialect opening t d i = λ ts all. tt
  head_kind_keeps Comma dialect opening t d i = λ ts all. tt
  head_kind_keeps Plus dialect opening t d i = λ ts all. tt
  head_kind_keeps Unknown dialect opening t d i = λ ts all. tt

  head_keeps : (t : Option Token) (dialect : Dialect) (opening : Opening) → IfToken Inside t → KeepsPart (head dialect opening t)
  unfolding head
  head_keeps None dialect opening i = λ ts all. tt
  head_keeps (Some t) dialect opening i = head_kind_keeps t.kind dialect opening t i.0 i.1

  first_word_keeps : (dialect : Dialect) (t : Token) (word : List ℕ) → Holds Inside t → KeepsPart (first_word dialect t word)
  first_word_keeps dialect t word i =
      given_keeps Inside (λ days. unsigned_abs days ≤ 1) IsSmallPart (day_of_word word) _ _ (day_small word) (λ days d. part_keeps (dated (Relative (Days days))) (omega (arith, d), tt))
      (given_any_keeps Inside IsSmallPart (direction_of word) (λ direction. next >>= head dialect (Directed direction)) (head dialect Bare (Some t))
      (λ direction. keeps_then Inside (IfToken Inside) IsSmallPart next (head dialect (Directed direction)) (next_keeps Inside) (λ behind b. head_keeps behind dialect (Directed direction) b))
      (head_keeps (Some t) dialect Bare i))

  first_kind_keeps : (k : Kind) (dialect : Dialect) (t : Token) → Holds Inside t → KeepsPart (first_kind dialect t k)
  first_kind_keeps Dash dialect t i =
      keeps_then Inside (IfToken Inside) IsSmallPart next (head dialect Minus) (next_keeps Inside) (λ behind b. head_keeps behind dialect Minus b)
  first_kind_keeps (Word word) dialect t i = first_word_keeps dialect t word i
  first_kind_keeps (Number n) dialect t i = head_keeps (Some t) dialect Bare i
  first_kind_keeps Slash dialect t i = head_keeps (Some t) dialect Bare i
  first_kind_keeps Colon dialect t i = head_keeps (Some t) dialect Bare i
  first_kind_keeps Dot dialect t i = head_keeps (Some t) dialect Bare i
  first_kind_keeps Comma dialect t i = head_keeps (Some t) dialect Bare i
  first_kind_keeps Plus dialect t i = head_keeps (Some t) dialect Bare i
  first_kind_keeps Unknown dialect t i = head_keeps (Some t) dialect Bare i

  first_keeps : (t : Option Token) (dialect : Dialect) → IfToken Inside t → KeepsPart (first dialect t)
  unfolding first
  first_keeps None dialect i = head_keeps None dialect Bare tt
  first_keeps (Some t) dialect i = first_kind_keeps t.kind dialect t i

  pub date_keeps : (dialect : Dialect) → KeepsPart (date_part dialect)
  unfolding date_part
  date_keeps dialect = keeps_then Inside (IfToken Inside) IsSmallPart next (first dialect) (next_keeps Inside) (λ t i. first_keeps t dialect i)
