-- The parts of a phrase have small numbers, and its faults stand inside it.
use Rattle.std.proofs.Common.{refl, ℕ, ◌<◌, ◌≤◌, List, [], ◌∷◌, length, Option, Some, None, Ok, Err, arith, MatchOption, MatchResult, IsSome}
use Rattle.interim.specs.declared.errors.DateError.{DateError}
use Rattle.interim.specs.declared.errors.DateError.TheVariants as error
use Rattle.interim.specs.declared.errors.Span.{Span}
use Rattle.interim.specs.declared.time_part.ClockFront.TheVariants.{Nothing, OpenHour, FormalHour, InformalHour, LoneHour}
use Rattle.interim.specs.declared.time_part.ClockFront.{ClockFront}
use Rattle.interim.specs.declared.types.DateSpec.{DateSpec}
use Rattle.interim.specs.declared.types.Dialect.{Dialect}
use Rattle.interim.specs.declared.types.TimeSpec.{TimeSpec}
use Rattle.interim.specs.DatePart.{date_part}
use Rattle.interim.specs.TimePart.{time_part}
use Rattle.interim.specs.Grammar.{read_of, time_of, both_parts, parts_of}
use Rattle.interim.specs.TokenLaws.{AreInOrder, AllHaveFewDigits}
use Rattle.interim.specs.PartLaws.{IsFaultIn, IsSmall, AreSmallParts, TimesAreSound, PartsAreSound}
use Rattle.interim.specs.Steps.{Outcome, pure}
use Rattle.interim.specs.TokenKinds.{Token}
use Rattle.interim.specs.Tokens.{phrase_tokens, tokens_of}
use Rattle.interim.proofs.SoundSteps.{AllHold, FaultHolds, Kept, Keeps, keeps_then, pure_keeps}
use Rattle.interim.proofs.SoundDate.{IsSmallPart, HasClock, date_keeps}
use Rattle.interim.proofs.SoundTime.{IsSmallOption, IsTimeFrom, time_keeps}
use Rattle.interim.proofs.TokenPlaces.{in_order, few_digits}

-- a place takes a byte, and none past the end
abbrev pub IsInside : ℕ → Span → Type 0
IsInside end s = (s.start < s.end) × (s.end ≤ end)

in_order_end : (from end : ℕ) (ts : List Token) → AreInOrder from end ts → from ≤ end
in_order_end from end [] h = h
in_order_end from end (t ∷ ts) h = let rest : t.span.end ≤ end = in_order_end t.span.end end ts h.2 in omega (arith, h.0, h.1)

all_hold : (from end : ℕ) (ts : List Token) → AreInOrder from end ts → AllHaveFewDigits ts → AllHold (IsInside end) ts
all_hold from end [] h k = tt
all_hold from end (t ∷ ts) h k = ((k.0, (h.1, in_order_end t.span.end end ts h.2)), all_hold t.span.end end ts h.2 k.1)

pub phrase_holds : (phrase : List ℕ) → AllHold (IsInside (length phrase)) (phrase_tokens phrase)
unfolding tokens_of
phrase_holds phrase =
    all_hold 0 (length phrase) (phrase_tokens phrase) (in_order (length phrase) 0 (length phrase) phrase (omega arith)) (few_digits (length phrase) (length phrase) phrase)

fault_in : (end : ℕ) (e : DateError) → FaultHolds (IsInside end) e → IsFaultIn end e
fault_in end (error.ExpectedToken x s) h = h
fault_in end (error.EndOfText x) h = h
fault_in end error.MissingDate h = h
fault_in end error.MissingTime h = h
fault_in end error.UnexpectedDate h = h
fault_in end error.UnexpectedAbsoluteDate h = h
fault_in end error.UnexpectedTime h = h
fault_in end error.Memory h = h

read_in : (end : ℕ) {A : Type 0} (Q : A → Type 0) (o : Outcome A) → Kept (IsInside end) Q o → MatchResult (read_of o) Q (IsFaultIn end)
read_in end Q (Ok r) h = h.0
read_in end Q (Err e) h = fault_in end e h

pub times_sound : TimesAreSound
unfolding time_of
times_sound phrase =
    read_in (length phrase) IsSmallOption _ (time_keeps (IsInside (length phrase)) Nothing tt (phrase_tokens phrase) (phrase_holds phrase))

-- ---- both parts

time_small : (front : ClockFront) (time : Option TimeSpec) → IsTimeFrom front time → IsSmallOption time
time_small Nothing time h = h
time_small (OpenHour n) None h = absurd h
time_small (OpenHour n) (Some t) h = h
time_small (FormalHour n) None h = absurd h
time_small (FormalHour n) (Some t) h = h
time_small (InformalHour n) None h = absurd h
time_small (InformalHour n) (Some t) h = h
time_small (LoneHour n) None h = absurd h
time_small (LoneHour n) (Some t) h = h

-- without a date there is a time
time_there : (front : ClockFront) (time : Option TimeSpec) → HasClock front → IsTimeFrom front time → IsSome time
time_there Nothing time h k = absurd h
time_there front None h k = absurd k
time_there front (Some t) h k = refl

date_small : (front : ClockFront) (date : Option DateSpec) (time : Option TimeSpec) → MatchOption date (HasClock front) IsSmall → IsTimeFrom front time → MatchOption date (IsSome time) IsSmall
date_small front None time h k = time_there front time h k
date_small front (Some date) time h k = h

both_keep : (Inside : Span → Type 0) (dialect : Dialect) → Keeps Inside AreSmallParts (both_parts dialect)
unfolding both_parts
both_keep Inside dialect =
    keeps_then Inside IsSmallPart AreSmallParts (date_part dialect) _ (date_keeps Inside dialect) (λ part p.
    keeps_then Inside (IsTimeFrom part.clock) AreSmallParts (time_part part.clock) (λ time. pure (record { date = part.date; time = time })) (time_keeps Inside part.clock p.1) (λ time t.
    pure_keeps Inside AreSmallParts (record { date = part.date; time = time })
    (record { date = date_small part.clock part.date time p.0 t; time = time_small part.clock time t })))

pub parts_sound : PartsAreSound
unfolding parts_of
parts_sound dialect phrase =
    read_in (length phrase) AreSmallParts _ (both_keep (IsInside (length phrase)) dialect (phrase_tokens phrase) (phrase_holds phrase))
