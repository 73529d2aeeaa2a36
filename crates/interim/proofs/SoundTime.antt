-- Time parts have small numbers, and faults at tokens.
use Rattle.std.proofs.Common.{◌≡◌, ℕ, zero, suc, ◌+◌, ◌*◌, ◌/◌, ◌%◌, ◌<◌, ◌≤◌, ◌==◌, Option, Some, None, Ok, Err, Bool, true, false, cond, refl, arith, MatchOption, ℤ, pos, neg_ℤ, unsigned_abs}
use Rattle.interim.specs.declared.errors.Expected.TheVariants as expected
use Rattle.interim.specs.declared.errors.Span.{Span}
use Rattle.interim.specs.declared.types.TimeSpec.{TimeSpec}
use Rattle.interim.specs.declared.words.Half.{Half}
use Rattle.interim.specs.declared.words.Half.TheVariants.{Am, Pm}
use Rattle.interim.specs.declared.time_part.ClockFront.{ClockFront}
use Rattle.interim.specs.declared.time_part.ClockFront.TheVariants.{Nothing, OpenHour, FormalHour, InformalHour, LoneHour}
use Rattle.interim.specs.PartLaws.{IsSmallTime}
use Rattle.interim.specs.TokenLaws.{HasFewDigits}
use Rattle.interim.specs.Parts.{clock, with_offset, shifted, in_half}
use Rattle.interim.specs.Words.{half_of, is_z}
use Rattle.interim.specs.TokenKinds.{Token, Kind, Number, Word, Dash, Slash, Colon, Dot, Comma, Plus, Unknown}
use Rattle.interim.specs.ReadingSteps.{number, follows}
use Rattle.interim.specs.NextTokens.{next, refuse, given}
use Rattle.interim.specs.TokenTests.{is_dot, is_colon}
use Rattle.interim.specs.Steps.{Outcome, pure, ◌>>=◌}
use Rattle.interim.specs.TimeEnds.{fraction, offset_seconds, written_offset, closing, closing_kind}
use Rattle.interim.specs.ClockTimes.{after_minute, after_minute_kind, formal, informal, informal_close, informal_kind}
use Rattle.interim.specs.OpenHours.{open_hour, open_hour_kind, after_hour, after_hour_kind}
use Rattle.interim.specs.TimePart.{whole_time, hour_or_end, hour_kind, kind_is_capital_t, some_time, time_part}
use Rattle.interim.proofs.SoundSteps.{given_any_keeps, Kept, Holds, IfToken, Keeps, keeps_then, either_keeps, pure_keeps, number_keeps, follows_keeps, next_keeps}

-- ---- numbers

small_clock : (hour min sec microsec : ℕ) → hour < 10012 → min < 10000 → sec < 10000 → microsec < 1000000 → IsSmallTime (clock hour min sec microsec)
small_clock hour min sec microsec h m s u = record { hour = h; min = m; sec = s; microsec = u; offset = tt }

either_small : (v : Bool) (x y : ℕ) → x < 10012 → y < 10012 → cond v x y < 10012
either_small true x y p q = p
either_small false x y p q = q

pub shifted_small : (half : Half) (hour : ℕ) → hour < 10000 → shifted half hour < 10012
shifted_small Am hour h = either_small (hour == 12) 0 hour (omega arith) (omega arith)
shifted_small Pm hour h = either_small (hour == 12) 12 (hour + 12) (omega arith) (omega arith)

pub abs-neg : (n : ℕ) → unsigned_abs (neg_ℤ (pos n)) ≡ n
abs-neg zero = refl
abs-neg (suc n) = refl

offset_small : (is_west : Bool) (hours minutes : ℕ) → hours < 10000 → minutes < 10000 → unsigned_abs (offset_seconds is_west hours minutes) ≤ 36596340
offset_small true hours minutes h m = rw (abs-neg (60 * (minutes + 60 * hours))) (omega arith)
offset_small false hours minutes h m = omega arith

-- the numbers of a clock time as they are written
pub record AreShort (hour min sec microsec : ℕ) : Type 0 where
  pub hour_short : hour < 10000
  pub min_short : min < 10000
  pub sec_short : sec < 10000
  pub microsec_short : microsec < 1000000

clock_small : (h m s u : ℕ) → AreShort h m s u → IsSmallTime (clock h m s u)
clock_small h m s u short = small_clock h m s u (omega arith) short.min_short short.sec_short short.microsec_short

half_small : (half : Half) (h m s u : ℕ) → AreShort h m s u → IsSmallTime (in_half half (clock h m s u))
half_small half h m s u short = small_clock (shifted half h) m s u (shifted_small half h short.hour_short) short.min_short short.sec_short short.microsec_short

offset_time_small : (o : ℤ) (h m s u : ℕ) → AreShort h m s u → unsigned_abs o ≤ 36596340 → IsSmallTime (with_offset (clock h m s u) o)
offset_time_small o h m s u short p = record { hour = omega arith; min = short.min_short; sec = short.sec_short; microsec = short.microsec_short; offset = p }

-- what has been read of a time
abbrev pub IsSmallFront : ClockFront → Type 0
IsSmallFront Nothing = Unit {0}
IsSmallFront (OpenHour h) = h < 10000
IsSmallFront (FormalHour h) = h < 10000
IsSmallFront (InformalHour h) = h < 10000
IsSmallFront (LoneHour h) = h < 10012

-- ---- steps

abbrev pub IsSmallOption : Option TimeSpec → Type 0
IsSmallOption t = MatchOption t (Unit {0}) IsSmallTime

-- a time, which there is where something of it has been read
abbrev pub IsTimeFrom : ClockFront → Option TimeSpec → Type 0
IsTimeFrom Nothing t = IsSmallOption t
IsTimeFrom front None = ⊥
IsTimeFrom front (Some t) = IsSmallTime t

module _ (Inside : Span → Type 0) where
  pub fraction_keeps : Keeps Inside (λ n. n < 1000000) fraction
  unfolding fraction
  fraction_keeps =
      keeps_then Inside (λ (_ : Bool). Unit {0}) (λ n. n < 1000000) (follows is_dot) _ (follows_keeps Inside is_dot)
      (λ v _. either_keeps Inside (λ (n : ℕ). n < 1000000) v number (pure 0)
      (λ ts all. weaker (number ts) (number_keeps Inside ts all)) (pure_keeps Inside (λ (n : ℕ). n < 1000000) 0 (omega arith)))
    where
      weaker : (o : Outcome ℕ) → Kept Inside (λ n. n < 10000) o → Kept Inside (λ n. n < 1000000) o
      weaker (Ok r) h = (omega (arith, h.0), h.1)
      weaker (Err e) h = h

  abbrev IsOffset : ℤ → Type 0
  IsOffset o = unsigned_abs o ≤ 36596340

  pub offset_keeps : (is_west : Bool) → Keeps Inside IsOffset (written_offset is_west)
  unfolding written_offset
  offset_keeps is_west =
      keeps_then Inside (λ n. n < 10000) IsOffset number _ (number_keeps Inside) (λ hours h.
      keeps_then Inside (λ (_ : Bool). Unit {0}) IsOffset (follows is_colon) _ (follows_keeps Inside is_colon) (λ v _.
      either_keeps Inside IsOffset v _ (pure (offset_seconds is_west (hours / 100) (hours % 100)))
      (keeps_then Inside (λ n. n < 10000) IsOffset number _ (number_keeps Inside) (λ minutes m.
      pure_keeps Inside IsOffset (offset_seconds is_west hours minutes) (offset_small is_west hours minutes h m)))
      (pure_keeps Inside IsOffset (offset_seconds is_west (hours / 100) (hours % 100)) (offset_small is_west (hours / 100) (hours % 100) (omega arith) (omega arith)))))

  closing_kind_keeps : (k : Kind) (t : Token) (h m s u : ℕ) → Inside t.span → AreShort h m s u → Keeps Inside IsSmallTime (closing_kind (clock h m s u) t k)
  closing_kind_keeps Plus t h m s u i short =
      keeps_then Inside IsOffset IsSmallTime (written_offset false) _ (offset_keeps false) (λ o p. pure_keeps Inside IsSmallTime (with_offset (clock h m s u) o) (offset_time_small o h m s u short p))
  closing_kind_keeps Dash t h m s u i short =
      keeps_then Inside IsOffset IsSmallTime (written_offset true) _ (offset_keeps true) (λ o p. pure_keeps Inside IsSmallTime (with_offset (clock h m s u) o) (offset_time_small o h m s u short p))
  closing_kind_keeps (Word word) t h m s u i short =
      either_keeps Inside IsSmallTime (is_z word) (pure (with_offset (clock h m s u) (pos 0))) (given (half_of word) (λ half. pure (in_half half (clock h m s u))) (refuse expected.ZAmPm t))
      (pure_keeps Inside IsSmallTime (with_offset (clock h m s u) (pos 0)) (offset_time_small (pos 0) h m s u short (omega arith)))
      (given_any_keeps Inside IsSmallTime (half_of word) _ (refuse expected.ZAmPm t) (λ half. pure_keeps Inside IsSmallTime (in_half half (clock h m s u)) (half_small half h m s u short)) (λ ts all. i))
  closing_kind_keeps (Number n) t h m s u i short = λ ts all. i
  closing_kind_keeps Slash t h m s u i short = λ ts all. i
  closing_kind_keeps Colon t h m s u i short = λ ts all. i
  closing_kind_keeps Dot t h m s u i short = λ ts all. i
  closing_kind_keeps Comma t h m s u i short = λ ts all. i
  closing_kind_keeps Unknown t h m s u i short = λ ts all. i

  pub closing_keeps : (t : Option Token) (h m s u : ℕ) → IfToken Inside t → AreShort h m s u → Keeps Inside IsSmallTime (closing (clock h m s u) t)
  unfolding closing
  closing_keeps None h m s u i short = pure_keeps Inside IsSmallTime (clock h m s u) (clock_small h m s u short)
  closing_keeps (Some t) h m s u i short = closing_kind_keeps t.kind t h m s u i.1 short

  short_minute : (h m : ℕ) → h < 10000 → m < 10000 → AreShort h m 0 0
  short_minute h m p q = record { hour_short = p; min_short = q; sec_short = omega arith; microsec_short = omega arith }

  after_minute_kind_keeps : (k : Kind) (t : Token) (h m : ℕ) → Holds Inside t → h < 10000 → m < 10000 → Keeps Inside IsSmallTime (after_minute_kind h m t k)
  after_minute_kind_keeps Colon t h m i p q =
      keeps_then Inside (λ n. n < 10000) IsSmallTime number _ (number_keeps Inside) (λ s r.
      keeps_then Inside (λ n. n < 1000000) IsSmallTime fraction _ fraction_keeps (λ u v.
      keeps_then Inside (IfToken Inside) IsSmallTime next _ (next_keeps Inside) (λ last l.
      closing_keeps last h m s u l (record { hour_short = p; min_short = q; sec_short = r; microsec_short = v }))))
  after_minute_kind_keeps (Word word) t h m i p q = closing_keeps (Some t) h m 0 0 i (short_minute h m p q)
  after_minute_kind_keeps (Number n) t h m i p q = closing_keeps (Some t) h m 0 0 i (short_minute h m p q)
  after_minute_kind_keeps Dash t h m i p q = λ ts all. i.1
  after_minute_kind_keeps Slash t h m i p q = λ ts all. i.1
  after_minute_kind_keeps Dot t h m i p q = λ ts all. i.1
  after_minute_kind_keeps Comma t h m i p q = λ ts all. i.1
  after_minute_kind_keeps Plus t h m i p q = λ ts all. i.1
  after_minute_kind_keeps Unknown t h m i p q = λ ts all. i.1

  after_minute_keeps : (t : Option Token) (h m : ℕ) → IfToken Inside t → h < 10000 → m < 10000 → Keeps Inside IsSmallTime (after_minute h m t)
  unfolding after_minute
  after_minute_keeps None h m i p q = closing_keeps None h m 0 0 tt (short_minute h m p q)
  after_minute_keeps (Some t) h m i p q = after_minute_kind_keeps t.kind t h m i p q

  pub formal_keeps : (h : ℕ) → h < 10000 → Keeps Inside IsSmallTime (formal h)
  unfolding formal
  formal_keeps h p =
      keeps_then Inside (λ n. n < 10000) IsSmallTime number _ (number_keeps Inside) (λ m q.
      keeps_then Inside (IfToken Inside) IsSmallTime next _ (next_keeps Inside) (λ t i. after_minute_keeps t h m i p q))

  informal_kind_keeps : (k : Kind) (t : Token) (h m : ℕ) → Inside t.span → h < 10000 → m < 10000 → Keeps Inside IsSmallTime (informal_kind (clock h m 0 0) t k)
  informal_kind_keeps (Word word) t h m i p q =
      given_any_keeps Inside IsSmallTime (half_of word) _ (refuse expected.DotAmPm t) (λ half. pure_keeps Inside IsSmallTime (in_half half (clock h m 0 0)) (half_small half h m 0 0 (short_minute h m p q))) (λ ts all. i)
  informal_kind_keeps (Number n) t h m i p q = λ ts all. i
  informal_kind_keeps Dash t h m i p q = λ ts all. i
  informal_kind_keeps Slash t h m i p q = λ ts all. i
  informal_kind_keeps Colon t h m i p q = λ ts all. i
  informal_kind_keeps Dot t h m i p q = λ ts all. i
  informal_kind_keeps Comma t h m i p q = λ ts all. i
  informal_kind_keeps Plus t h m i p q = λ ts all. i
  informal_kind_keeps Unknown t h m i p q = λ ts all. i

  informal_close_keeps : (t : Option Token) (h m : ℕ) → IfToken Inside t → h < 10000 → m < 10000 → Keeps Inside IsSmallTime (informal_close (clock h m 0 0) t)
  unfolding informal_close
  informal_close_keeps None h m i p q = pure_keeps Inside IsSmallTime (clock h m 0 0) (clock_small h m 0 0 (short_minute h m p q))
  informal_close_keeps (Some t) h m i p q = informal_kind_keeps t.kind t h m i.1 p q

  pub informal_keeps : (h : ℕ) → h < 10000 → Keeps Inside IsSmallTime (informal h)
  unfolding informal
  informal_keeps h p =
      keeps_then Inside (λ n. n < 10000) IsSmallTime number _ (number_keeps Inside) (λ m q.
      keeps_then Inside (IfToken Inside) IsSmallTime next _ (next_keeps Inside) (λ t i. informal_close_keeps t h m i p q))

  open_kind_keeps : (k : Kind) (t : Token) (h : ℕ) → Inside t.span → h < 10000 → Keeps Inside IsSmallTime (open_hour_kind h t k)
  open_kind_keeps Colon t h i p = formal_keeps h p
  open_kind_keeps Dot t h i p = informal_keeps h p
  open_kind_keeps (Word word) t h i p = λ ts all. i
  open_kind_keeps (Number n) t h i p = λ ts all. i
  open_kind_keeps Dash t h i p = λ ts all. i
  open_kind_keeps Slash t h i p = λ ts all. i
  open_kind_keeps Comma t h i p = λ ts all. i
  open_kind_keeps Plus t h i p = λ ts all. i
  open_kind_keeps Unknown t h i p = λ ts all. i

  open_keeps : (t : Option Token) (h : ℕ) → IfToken Inside t → h < 10000 → Keeps Inside IsSmallTime (open_hour h t)
  unfolding open_hour
  open_keeps None h i p = λ ts all. tt
  open_keeps (Some t) h i p = open_kind_keeps t.kind t h i.1 p

  after_kind_keeps : (k : Kind) (t : Token) (h : ℕ) → Inside t.span → h < 10000 → Keeps Inside IsSmallTime (after_hour_kind h t k)
  after_kind_keeps Colon t h i p = formal_keeps h p
  after_kind_keeps Dot t h i p = informal_keeps h p
  after_kind_keeps (Word word) t h i p =
      given_any_keeps Inside IsSmallTime (half_of word) _ (refuse expected.AmPm t)
      (λ half. pure_keeps Inside IsSmallTime (clock (shifted half h) 0 0 0) (small_clock (shifted half h) 0 0 0 (shifted_small half h p) (omega arith) (omega arith) (omega arith))) (λ ts all. i)
  after_kind_keeps (Number n) t h i p = λ ts all. i
  after_kind_keeps Dash t h i p = λ ts all. i
  after_kind_keeps Slash t h i p = λ ts all. i
  after_kind_keeps Comma t h i p = λ ts all. i
  after_kind_keeps Plus t h i p = λ ts all. i
  after_kind_keeps Unknown t h i p = λ ts all. i

  after_hour_keeps : (t : Option Token) (h : ℕ) → IfToken Inside t → h < 10000 → Keeps Inside IsSmallTime (after_hour h t)
  unfolding after_hour
  after_hour_keeps None h i p = λ ts all. tt
  after_hour_keeps (Some t) h i p = after_kind_keeps t.kind t h i.1 p

  hour_kind_keeps : (k : Kind) (t : Token) → HasFewDigits k → Inside t.span → Keeps Inside IsSmallOption (hour_kind t k)
  hour_kind_keeps (Number h) t p i =
      keeps_then Inside (IfToken Inside) IsSmallOption next (λ last. after_hour h last >>= some_time) (next_keeps Inside) (λ last l.
      keeps_then Inside IsSmallTime IsSmallOption (after_hour h last) some_time (after_hour_keeps last h l p) (λ time small. pure_keeps Inside IsSmallOption (Some time) small))
  hour_kind_keeps (Word word) t p i = λ ts all. i
  hour_kind_keeps Dash t p i = λ ts all. i
  hour_kind_keeps Slash t p i = λ ts all. i
  hour_kind_keeps Colon t p i = λ ts all. i
  hour_kind_keeps Dot t p i = λ ts all. i
  hour_kind_keeps Comma t p i = λ ts all. i
  hour_kind_keeps Plus t p i = λ ts all. i
  hour_kind_keeps Unknown t p i = λ ts all. i

  hour_keeps : (t : Option Token) → IfToken Inside t → Keeps Inside IsSmallOption (hour_or_end t)
  hour_keeps None i = λ ts all. (tt, all)
  hour_keeps (Some t) i = hour_kind_keeps t.kind t i.0 i.1

  pub whole_keeps : Keeps Inside IsSmallOption whole_time
  unfolding whole_time
  whole_keeps =
      keeps_then Inside (λ (_ : Bool). Unit {0}) IsSmallOption (follows kind_is_capital_t) _ (follows_keeps Inside kind_is_capital_t) (λ v _.
      keeps_then Inside (IfToken Inside) IsSmallOption next _ (next_keeps Inside) (λ t i. hour_keeps t i))

  pub time_keeps : (front : ClockFront) → IsSmallFront front → Keeps Inside (IsTimeFrom front) (time_part front)
  unfolding time_part
  time_keeps Nothing p = whole_keeps
  time_keeps (OpenHour h) p =
      keeps_then Inside IsSmallTime (IsTimeFrom (OpenHour h)) _ some_time
      (keeps_then Inside (IfToken Inside) IsSmallTime next (open_hour h) (next_keeps Inside) (λ t i. open_keeps t h i p)) (λ time small. pure_keeps Inside (IsTimeFrom (OpenHour h)) (Some time) small)
  time_keeps (FormalHour h) p =
      keeps_then Inside IsSmallTime (IsTimeFrom (FormalHour h)) (formal h) some_time (formal_keeps h p) (λ time small. pure_keeps Inside (IsTimeFrom (FormalHour h)) (Some time) small)
  time_keeps (InformalHour h) p =
      keeps_then Inside IsSmallTime (IsTimeFrom (InformalHour h)) (informal h) some_time (informal_keeps h p) (λ time small. pure_keeps Inside (IsTimeFrom (InformalHour h)) (Some time) small)
  time_keeps (LoneHour h) p = pure_keeps Inside (IsTimeFrom (LoneHour h)) (Some (clock h 0 0 0)) (small_clock h 0 0 0 p (omega arith) (omega arith) (omega arith))
